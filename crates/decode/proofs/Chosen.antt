-- Whether one of the fragments that are chosen is open.
use Rattle.lrc_code.specs.declared.Code.{Code}
use Rattle.std.proofs.Common.{◌≡◌, ℕ, ◌<◌, true, List, Option, Some, None, Bor, IfSome, IsSomeAnd, sym}
use Rattle.std.specs.Prelude.{slice_index_or}
use Rattle.lrc_code.specs.Code.{fragment_count, is_lost, Open}
use Rattle.lrc_code.specs.Stripe.{is_absent}
use Rattle.lrc_code.proofs.Stripes.{open_same}
use Rattle.decode.specs.Decoding.{AreAbsent, HasOpen, IsDecodable}

module _ (code : Code) (fragments : List (Option (Bor (List ℕ)))) where
  not_open : (lost : ℕ) (chosen : Option ℕ) → AreAbsent code fragments lost → ((f : ℕ) → f < fragment_count code → Open code (is_lost lost) f → ⊥)
      → IfSome chosen (λ f. f < fragment_count code) → IsSomeAnd chosen (Open code (is_absent fragments)) → ⊥
  not_open lost None same none inside h = h
  not_open lost (Some f) same none inside h = none f inside (open_same code (is_absent fragments) (is_lost lost) f (λ i l. sym (same i l)) h)

  -- where no fragment is open, none that is chosen is
  pub none_open : (lost : ℕ) (chosen : List (Option ℕ)) → AreAbsent code fragments lost → ((f : ℕ) → f < fragment_count code → Open code (is_lost lost) f → ⊥)
      → ((i : ℕ) → i < 4 → IfSome (slice_index_or chosen i None) (λ f. f < fragment_count code)) → HasOpen code (is_absent fragments) chosen → ⊥
  none_open lost chosen same none inside h = not_open lost (slice_index_or chosen h.0 None) same none (inside h.0 h.1) h.2

  decodable_if : (chosen : Option ℕ) → IfSome chosen (λ f. (f < fragment_count code) × (is_absent fragments f ≡ true)) → (IsSomeAnd chosen (Open code (is_absent fragments)) → ⊥)
      → IsDecodable code fragments chosen
  decodable_if None known none = tt
  decodable_if (Some f) known none = (known.0, known.1, none)

  -- where none that is chosen is open, each is decodable
  pub decodable : (chosen : List (Option ℕ)) → ((i : ℕ) → i < 4 → IfSome (slice_index_or chosen i None) (λ f. (f < fragment_count code) × (is_absent fragments f ≡ true)))
      → (HasOpen code (is_absent fragments) chosen → ⊥) → (i : ℕ) → i < 4 → IsDecodable code fragments (slice_index_or chosen i None)
  decodable chosen known none i l = decodable_if (slice_index_or chosen i None) (known i l) (λ h. none (i, l, h))
