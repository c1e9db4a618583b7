-- A blob's fragments are the one stripe whose data fragments hold its bytes.
use Rattle.std.proofs.Common.{◌≡◌, ℕ, ◌<◌, List, length, sym, ◌∙◌, subst, arith}
use Rattle.std.specs.Prelude.{All, slice_index, slice_index_or}
use Rattle.std.proofs.Common.{inl, inr}
use Rattle.std.proofs.lemmas.Bool.{cases_lt}
use Rattle.std.proofs.lemmas.List.{get_or_past}
use Rattle.std.proofs.lemmas.List.FromFn.{length-map-range_with_len, get_or-map-range_with_len, fill_by_all}
use Rattle.lrc_code.specs.declared.Code.{Code}
use Rattle.lrc_code.specs.Code.{fragment_count, IsColumn}
use Rattle.lrc_code.specs.Column.{column}
use Rattle.lrc_code.proofs.Columns.{column_is, column_only, column_data}
use Rattle.sealed.specs.Layout.{byte_of}
use Rattle.sealed.specs.Blob.{data_at, fragment}
use Rattle.sealed.specs.Stripe.{IsStripeOf}

pub byte_or_zero : (b : List ℕ) (i : ℕ) → All (λ x. x < 256) b → slice_index_or b i 0 < 256
byte_or_zero b i bytes =
    elim (cases_lt i (length b)) [
      | inl inside ↦ bytes i 0 inside
      | inr past ↦ subst (λ x. x < 256) (sym (get_or_past b i 0 past)) (omega arith)
    ]

module _ (code : Code) (w : ℕ) (b : List ℕ) (j : ℕ) where
  at : (f p : ℕ) → p < w → slice_index (fragment code w b j f) p ≡ column code (data_at code w b j p) f
  at f p l = get_or-map-range_with_len (λ p. column code (data_at code w b j p) f) 0 w p p 0 l (omega arith)

  pub fragments_are : All (λ x. x < 256) b → IsStripeOf code w b j (fragment code w b j)
  fragments_are bytes =
      record {
        stripe = record {
          width = λ f l. length-map-range_with_len (λ p. column code (data_at code w b j p) f) 0 w;
          columns = λ p l.
              let own = column_is code (data_at code w b j p) (λ f below. byte_or_zero b (byte_of code w j f p) bytes) in
              subst (λ (c : ℕ → ℕ). IsColumn code c) (λ k i. sym (at i p l) k) own;
        };
        holds = λ f p l below. at f p below ∙ column_data code (data_at code w b j p) f l;
      }

  pub fragments_only : (s : ℕ → List ℕ) → IsStripeOf code w b j s → (f : ℕ) → f < fragment_count code → s f ≡ fragment code w b j f
  fragments_only s is f l =
      fill_by_all (λ p. column code (data_at code w b j p) f) (s f) w 0 (is.stripe.width f l)
      (λ p below. column_only code (λ i. slice_index (s i) p) (data_at code w b j p) (is.stripe.columns p below) (λ g inside. is.holds g p inside below) f l)
