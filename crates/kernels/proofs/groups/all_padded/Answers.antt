use Rattle.std.proofs.Common.{◌≡◌, ◌<◌, [], ◌∷◌, length, map}
use Rattle.kernels.specs.Lists.{list_at, bytes_at}
use Rattle.kernels.proofs.GroupLemmas.{at_below}
use Rattle.kernels.proofs.groups.all_padded.Goals as goal

pub returns-clause-bytes : goal.returns-clause-bytes
returns-clause-bytes c f k low =
    at_below (λ f. k < length (list_at (map (λ s. s.now) c.args.sources.now) f) → bytes_at (c.padded.result ∷ c.padded-2.result ∷ c.padded-3.result ∷ c.padded-4.result ∷ c.padded-5.result ∷ c.padded-6.result ∷ c.padded-7.result ∷ c.padded-8.result ∷ c.padded-9.result ∷ c.padded-10.result ∷ c.padded-11.result ∷ c.padded-12.result ∷ []) k f ≡ bytes_at (map (λ s. s.now) c.args.sources.now) k f) 12 (
      (
        (
          (
            (
              (
                ((((((tt, c.padded.ensures.bytes k), c.padded-2.ensures.bytes k), c.padded-3.ensures.bytes k), c.padded-4.ensures.bytes k), c.padded-5.ensures.bytes k), c.padded-6.ensures.bytes k),
                c.padded-7.ensures.bytes k,
              ),
              c.padded-8.ensures.bytes k,
            ),
            c.padded-9.ensures.bytes k,
          ),
          c.padded-10.ensures.bytes k,
        ),
        c.padded-11.ensures.bytes k,
      ),
      c.padded-12.ensures.bytes k,
    ) f low
