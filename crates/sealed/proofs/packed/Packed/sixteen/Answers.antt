use Rattle.std.proofs.Common.{ℕ, ◌<◌, [], List, Option, length, get_or, sym, ap, ◌∙◌, arith}
use Rattle.std.proofs.lemmas.List.FromFn.{length-map-range_with_len}
use Rattle.sealed.specs.Layout.{stripe_size}
use Rattle.sealed.specs.Stripes.{Stripes}
use Rattle.sealed.specs.Packed.{part_of, held_by, parities_by}
use Rattle.sealed.proofs.Packing.{packed_count, packed_row, blob_at, last_at, parities_at}
use Rattle.sealed.proofs.packed.Packed.sixteen.Goals as goal

pub returns : goal.returns
returns c j below =
    let p = c.self.inside in
    let inside : j < p.count = omega (arith, ap length c.self.view_is, packed_count p.code p.width (blob_at p) (last_at p) (parities_at p) p.count) in
    ap (λ (t : Stripes). length (get_or t j [])) (sym c.self.view_is)
    ∙ ap (λ (row : List (Option (List ℕ))). length row) (packed_row p.code p.width (blob_at p) (last_at p) (parities_at p) p.count j inside)
    ∙ length-map-range_with_len (part_of p.code p.width (held_by (stripe_size p.code p.width) (blob_at p) (last_at p) j) (parities_by p.width (parities_at p) j)) 0 16
