-- Names as a test, and as a fact.
use Rattle.std.proofs.Common.{◌≡◌, ◌<◌, ℕ, zero, suc, List, [], ◌∷◌, length, true, Bool, ◌&&◌, arith, nat_le}
use Rattle.std.specs.Prelude.{IsUtf8, slice_index}
use Rattle.std.specs.List.{list_all}
use Rattle.std.proofs.lemmas.Str.{IsUtf8-from_ascii}
use Rattle.std.proofs.lemmas.Bool.Decides.{nat_tests}
use Rattle.std.proofs.lemmas.List.Sums.{AllPass-from_list_all, list_all-from_AllPass}
use Rattle.history.specs.Names.{IsName, is_name_byte}
use Rattle.script.specs.Names.{is_name}

both : (a b : Bool) → (a && b) ≡ true → (a ≡ true) × (b ≡ true)
both a b h = grind (arith, nat_tests)

pub name-from_test : (text : List ℕ) → is_name text ≡ true → IsName text
unfolding is_name
name-from_test text h =
    let plain = both (nat_le 1 (length text) && nat_le (length text) 32) (list_all is_name_byte text) h in
    record { some = grind (arith, nat_tests); short = grind (arith, nat_tests); plain = AllPass-from_list_all is_name_byte text plain.1 }

pub test-from_name : (text : List ℕ) → IsName text → is_name text ≡ true
unfolding is_name
test-from_name text named =
    let some = named.some in
    let short = named.short in
    let plain = list_all-from_AllPass is_name_byte text named.plain in
    grind (arith, nat_tests)

-- a byte of a name is ASCII
name-byte-small : (c : ℕ) → is_name_byte c ≡ true → c < 128
name-byte-small c h = grind (arith, nat_tests)

all-small : (text : List ℕ) → list_all is_name_byte text ≡ true → (i : ℕ) → slice_index text i < 128
all-small [] h i = omega arith
all-small (c ∷ cs) h zero = name-byte-small c (both (is_name_byte c) (list_all is_name_byte cs) h).0
all-small (c ∷ cs) h (suc i) = all-small cs (both (is_name_byte c) (list_all is_name_byte cs) h).1 i

-- a name is text
pub name-is-text : (text : List ℕ) → IsName text → IsUtf8 text
name-is-text text named = IsUtf8-from_ascii text (all-small text (list_all-from_AllPass is_name_byte text named.plain))
