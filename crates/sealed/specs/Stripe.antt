-- The stripe that a blob's data determine.
use Rattle.lrc_code.specs.Code.{data_count}
use Rattle.std.specs.Prelude.{◌≡◌, ℕ, ◌<◌, List, slice_index}
use Rattle.lrc_code.specs.declared.Code.{Code}
use Rattle.lrc_code.specs.Stripe.{IsStripe}
use Rattle.sealed.specs.Blob.{data_at}

-- a stripe whose data fragments hold the bytes of b that lie in stripe j, padded with zeros
pub record IsStripeOf (code : Code) (w : ℕ) (b : List ℕ) (j : ℕ) (s : ℕ → List ℕ) : Type 0 where
  pub stripe : IsStripe code w s
  pub holds : (f p : ℕ) → f < data_count code → p < w → slice_index (s f) p ≡ data_at code w b j p f
