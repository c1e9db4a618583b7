-- A put that was refused before it entered.
use Rattle.std.proofs.Common.{◌≡◌, ◌⊎◌, inl, inr, Result, Err, ap, ◌∙◌}
use Rattle.sealed.specs.declared.fault.Fault.{Fault}
use Rattle.sealed.specs.declared.fault.Fault.TheVariants.{NoMemory, TooLong}
use Rattle.book.specs.declared.answer.Answer.{Answer}

pub refused_before : (r : Result Answer Fault) (f : Fault) → r ≡ Err f → (f ≡ NoMemory) ⊎ (f ≡ TooLong) → (r ≡ Err NoMemory) ⊎ (r ≡ Err TooLong)
refused_before r f is (inl e) = inl (is ∙ ap Err e)
refused_before r f is (inr e) = inr (is ∙ ap Err e)
