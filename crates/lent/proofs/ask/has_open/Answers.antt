use Rattle.std.proofs.Common.{◌≡◌, ℕ, ◌<◌, ◌≤◌, Bool, true, false, MatchBool, IsTrue, nat_lt, refl, sym, ◌∙◌, arith, below_more}
use Rattle.lrc_code.specs.declared.Code.{Code}
use Rattle.lrc_code.specs.Code.{data_count, fragment_count, excess_of, is_alone, is_lost, Open}
use Rattle.lrc_code.proofs.Recoverable.{open_here, unique, not_open_left, not_open_alone}
use Rattle.lrc_code.proofs.Stripes.{open_same}
use Rattle.sealed.specs.Sealed.{absent_in}
use Rattle.sealed.proofs.Counting.{data_is_counted}
use Rattle.lent.proofs.ask.has_open.Goals as goal
use Rattle.lent.proofs.ask.has_open.Goals.{else-not-left-via-then-not-left+else-not-is_alone_in, else-not-left-via-else-not-left}

-- the fragment f is lost together with another of its group: the excess decides for it, and for all
-- if it is small
told : (code : Code) (lost absent : ℕ → Bool) (n from f to : ℕ) → ((i : ℕ) → i < fragment_count code → lost i ≡ absent i) → n ≡ excess_of code lost
    → from ≤ f → f < to → to ≤ data_count code → lost f ≡ true → is_alone code lost f ≡ false → (b : Bool) → nat_lt 2 n ≡ b
    → MatchBool b ((x : ℕ) × (from ≤ x) × (x < to) × Open code absent x) ((x : ℕ) → from ≤ x → x < to → Open code absent x → ⊥)
told code lost absent n from f to same excess low high inside is_lost crowded true above =
    let counted = data_is_counted code in
    (f, low, high, open_same code lost absent f same (open_here code lost f (omega arith) is_lost crowded (grind arith)))
told code lost absent n from f to same excess low high inside is_lost crowded false few =
    λ x h l o.
    let counted = data_is_counted code in
    let small : excess_of code lost ≤ 2 = grind arith in
    (unique code lost).0 small x (omega arith) (open_same code absent lost x (λ i below. sym (same i below)) o)

is_lost_of : (b x : Bool) → (IsTrue b → x ≡ false) × (x ≡ false → IsTrue b) → b ≡ false → x ≡ true
is_lost_of b true is e = refl
is_lost_of b false is e = grind (arith, is.1 refl)

is_left_of : (b x : Bool) → (IsTrue b → x ≡ false) × (x ≡ false → IsTrue b) → b ≡ true → x ≡ false
is_left_of true x is e = is.0 (let holds : IsTrue true = grind arith in holds)
is_left_of false x is e = absurd (let no : false ≡ true = e in cc)

pub returns-then-not-is_alone_in : goal.returns-then-not-is_alone_in
returns-then-not-is_alone_in c =
    told c.args.sealed.now.code (is_lost c.lost-lost.result) (absent_in c.args.sealed.now c.args.stripe) c.excess_in.result c.args.from c.loop-f.f c.args.to
    c.lost-lost.ensures.absent c.excess_in.ensures.value c.loop-f.auto.f c.loop-f-test.true c.requires.to_below
    (is_lost_of _ _ c.left.ensures c.if-not-left.true) (sym c.is_alone_in.ensures ∙ c.if-not-is_alone_in.true) _ refl

pub loop-f-preserved : goal.loop-f-preserved
loop-f-preserved c g low high =
    let code = c.args.sealed.now.code in
    let lost : ℕ → Bool = is_lost c.lost-lost.result in
    let absent : ℕ → Bool = absent_in c.args.sealed.now c.args.stripe in
    let counted = data_is_counted code in
    let inside : c.loop-f.f < fragment_count code = omega (arith, c.loop-f-test.true, c.requires.to_below) in
    let here : Open code absent c.loop-f.f → Open code lost c.loop-f.f = λ o. open_same code absent lost c.loop-f.f (λ i below. sym (c.lost-lost.ensures.absent i below)) o in
    below_more (λ u. c.args.from ≤ u → Open code absent u → ⊥) c.loop-f.f (λ u h from. c.loop-f.invariant u from h)
    (λ from o. elim c.else-not-left.branch [
      | else-not-left-via-then-not-left+else-not-is_alone_in w ↦ not_open_alone code lost c.loop-f.f inside (sym w.is_alone_in.ensures ∙ w.if-not-is_alone_in.false) (here o)
      | else-not-left-via-else-not-left w ↦ not_open_left code lost c.loop-f.f inside (is_left_of _ _ c.left.ensures w.if-not-left.false) (here o)
    ]) g high low

pub returns : goal.returns
returns c = λ f low high. c.loop-f.invariant f low (omega (arith, c.loop-f-test.false))
