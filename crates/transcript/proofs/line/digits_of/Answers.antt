use Rattle.std.proofs.Common.{◌≡◌, ℕ, true, List, [], ◌∷◌, ltb, ltb-true, sym, subst, refl}
use Rattle.std.specs.Cmp.{first_so, second_so}
use Rattle.std.specs.List.{list_all}
use Rattle.std.specs.Str.{IsAscii, IsUtf8}
use Rattle.std.proofs.lemmas.Str.{IsUtf8-from_ascii}
use Rattle.std.proofs.lemmas.Str.Ascii.{IsAscii-nil, IsAscii-cons}
use Rattle.hex.specs.Hex.{lower_digits}
use Rattle.hex.proofs.HexLemmas.{IsAscii-encode_with}
use Rattle.transcript.proofs.line.digits_of.Goals as goal

all_ascii : (bs : List ℕ) → list_all (λ b. ltb b 128) bs ≡ true → IsAscii bs
all_ascii [] h = IsAscii-nil
all_ascii (b ∷ bs) h = let one = ltb b 128 in let others = list_all (λ b. ltb b 128) bs in IsAscii-cons b bs (ltb-true b 128 (first_so one others h)) (all_ascii bs (second_so one others h))

digits_are_ascii : IsAscii lower_digits
digits_are_ascii = all_ascii lower_digits refl

pub unreachable-requires-in_default-from_utf8 : goal.unreachable-requires-in_default-from_utf8
unreachable-requires-in_default-from_utf8 c =
    c.in_default-from_utf8.ensures.cases.0 (subst IsUtf8 (sym c.in-Ok.ensures.written) (IsUtf8-from_ascii _ (IsAscii-encode_with lower_digits c.args.bytes.now digits_are_ascii)))
