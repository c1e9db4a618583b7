-- What the parser's result determines about the words.
use Rattle.std.proofs.Common.{◌≡◌, ◌⊎◌, ◌∙◌, ◌<◌, ◌^◌, ℕ, List, Option, Some, None, Result, Ok, Err, true, inl, inr, refl, sym, ap, subst}
use Rattle.std.specs.Prelude.{SomeIff, option_map}
use Rattle.std.specs.Str.Parse.{IsNumeral, ParsesUnsigned, digits_value, without_leading_plus}
use Rattle.clap.specs.Words.{HasKind, IsAmong, ReadsOne, Text, fault_of, is_simple, is_simple_and_free, kind_of, one_of, one_text, rows_of}
use Rattle.clap.specs.declared.error.Error.{Error}
use Rattle.clap.specs.declared.error.kind.ErrorKind.{ErrorKind}
use Rattle.clap.specs.declared.error.kind.ErrorKind.TheVariants as kind
use Rattle.clap.specs.declared.parser.matches.Found.{Found}
use Rattle.clap.proofs.OnLiterals.{clap_on_literals}
use Rattle.clap.proofs.WalkLemmas.{one_text-rows}
use Rattle.command_line.specs.Line.{Refuses, number_of, refusal_by, refusal_of}
use Rattle.command_line.specs.Program.{program}

-- `clap` is exactly specified for this command: what it finds in the words, and why it refuses them
pub program_is_simple : is_simple program ≡ true
unfolding program clap_on_literals
program_is_simple = refl

pub program_is_free : is_simple_and_free program ≡ true
unfolding program clap_on_literals
program_is_free = refl

-- a number that was read is that of its text
pub number_read : {E : Type 0} (G : List ℕ → Result ℕ E → Type 0) (k : ℕ) (found : Found) (id : Text) (n : ℕ) → ((t : List ℕ) (r : Result ℕ E) → G t r → ParsesUnsigned k 10 t r)
    → (one_text found id ≡ None → Some n ≡ None) → ((t : List ℕ) → one_text found id ≡ Some t → ReadsOne G t (Some n)) → number_of id (rows_of found) ≡ Some n
number_read {E} G k found id n parses none value = ap (option_map (λ text. digits_value 10 (without_leading_plus text))) (sym (one_text-rows found id)) ∙ go (one_text found id) refl
  where
    go : (o : Option Text) → one_text found id ≡ o → option_map (λ text. digits_value 10 (without_leading_plus text)) o ≡ Some n
    go None is = cc (none is)
    go (Some t) is = ap Some (sym ((parses t (Ok n) (value t is)).1))

-- the number read from a text, if it has one
pub text_read : {E : Type 0} (G : List ℕ → Result ℕ E → Type 0) (k : ℕ) (found : Found) (id : Text) (o : Option ℕ) → ((t : List ℕ) (r : Result ℕ E) → G t r → ParsesUnsigned k 10 t r)
    → ((t : List ℕ) → one_text found id ≡ Some t → ReadsOne G t o) → (t : Text) → one_of id (rows_of found) ≡ Some t
    → SomeIff o (IsNumeral 10 (without_leading_plus t) × (digits_value 10 (without_leading_plus t) < 2 ^ k)) (digits_value 10 (without_leading_plus t))
text_read G k found id None parses value t is = let read = value t (one_text-rows found id ∙ is) in parses t (Err read.0) read.1
text_read G k found id (Some n) parses value t is = parses t (Ok n) (value t (one_text-rows found id ∙ is))

-- an option of which a number was read has a text
pub text_given : (found : Found) (id : Text) (n : ℕ) → (one_text found id ≡ None → Some n ≡ None) → (t : Text) × (one_of id (rows_of found) ≡ Some t)
text_given found id n none = go (one_text found id) refl
  where
    go : (o : Option Text) → one_text found id ≡ o → (t : Text) × (one_of id (rows_of found) ≡ Some t)
    go None is = cc (none is)
    go (Some t) is = (t, sym (one_text-rows found id) ∙ is)

-- an error of `clap` has the kind of a fault that `clap` finds in the words
pub refuses : (words : List Text) (error : Error) → HasKind (fault_of program words) error → Refuses words (refusal_of error)
refuses words error has = go (kind_of error) refl has
  where
    go : (k : ErrorKind) → kind_of error ≡ k → (k ≡ kind.OutOfMemory) ⊎ IsAmong k (fault_of program words) → Refuses words (refusal_by k error)
    go kind.OutOfMemory is h = tt
    go k is (inl memory) = cc
    go k is (inr among) = subst (λ j. IsAmong j (fault_of program words)) (sym is) among
