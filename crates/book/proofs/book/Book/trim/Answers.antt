use Rattle.std.proofs.Common.{◌≡◌, ℕ, ◌-◌, ◌≤◌, List, ap, ◌∙◌, sym, subst, take, drop, length, cond, arith}
use Rattle.std.specs.Prelude.{count_by}
use Rattle.std.proofs.lemmas.List.{length-take, length-take-le}
use Rattle.std.proofs.lemmas.List.Sums.{count_by-le-length, sum_by-take-drop}
use Rattle.history.specs.History.{IsLegalFrom, is_put}
use Rattle.history.specs.Base.{Outlines, Checkpoint}
use Rattle.history.specs.declared.note.Entry.{Entry}
use Rattle.book.specs.declared.book.Book.TheInside.{Inside}
use Rattle.history.specs.Log.{kept_of}
use Rattle.history.proofs.Kept.{all_kept, has_journal}
use Rattle.book.specs.Contents.{Contents, journal_of}
use Rattle.book.proofs.Trimming.{tells_trimmed}
use Rattle.book.proofs.book.Book.trim.Goals as goal

pub invariant_of-self-2 : goal.invariant_of-self-2
invariant_of-self-2 c =
    let n : ℕ = length c.entries.result.now - c.args.keep in
    let items = c.self-2.inside.log.entries in
    let same : kept_of c.self-2.inside.log.limit items ≡ journal_of c.args.self.now = ap journal_of c.self-2.view_is in
    let kept : c.self-2.inside.log.limit ≤ 1048576 =
    has_journal c.self-2.inside.log.limit items (omega (arith, c.if-self-count.false, ap (λ (es : List Entry). length es) c.entries.ensures.value, ap (λ (es : List Entry). length es) same)) in
    let entries : c.entries-2.result.now ≡ items = c.entries-2.ensures.value ∙ all_kept c.self-2.inside.log.limit items kept in
    let all = sum_by-take-drop (λ (e : Entry). cond (is_put e) 1 0) items n in
    let first = ap (λ (es : List Entry). count_by is_put (take n es)) entries in
    let rest = ap (count_by is_put) c.give_up.ensures.entries in
    let few = count_by-le-length is_put (take n c.entries-2.result.now) in
    let taken = length-take n c.entries-2.result.now in (
      omega (arith, c.self-2.invariant.0, c.in_ok-advance.ensures.puts, all, first, rest),
      omega (arith, c.self-2.invariant.1, c.in_ok-advance.ensures.puts, c.in_ok-advance.ensures.trimmed, few),
      omega (arith, c.in_ok-advance.ensures.trimmed, taken, c.if-self-count.false, ap (λ (b : Inside). b.base.trimmed) c.self-inside.view_is, ap (λ (s : Contents). s.base.trimmed) c.self.view_is, ap (λ (s : Contents). s.base.trimmed) c.self-2.view_is),
    )

pub returns-clause-holds : goal.returns-clause-holds
returns-clause-holds c =
    let n : ℕ = length c.entries.result.now - c.args.keep in
    let old : Contents = c.args.self.now in
    let base : c.self-2.inside.base ≡ old.base = ap (λ (s : Contents). s.base) c.self-2.view_is in
    let width : c.self-2.inside.width ≡ old.width = ap (λ (s : Contents). s.width) c.self-2.view_is in
    let entries : c.self-2.inside.log.entries ≡ old.entries = ap (λ (s : Contents). s.entries) c.self-2.view_is in
    let items = c.self-2.inside.log.entries in
    let same : kept_of c.self-2.inside.log.limit items ≡ journal_of old = ap journal_of c.self-2.view_is in
    let kept : c.self-2.inside.log.limit ≤ 1048576 =
    has_journal c.self-2.inside.log.limit items (omega (arith, c.if-self-count.false, ap (λ (es : List Entry). length es) c.entries.ensures.value, ap (λ (es : List Entry). length es) same)) in
    let given : c.entries-2.result.now ≡ old.entries = c.entries-2.ensures.value ∙ all_kept c.self-2.inside.log.limit items kept ∙ entries in
    let few : n ≤ length old.entries = omega (arith, ap (λ (es : List Entry). length es) c.entries.ensures.value, ap (λ (es : List Entry). length es) same, ap (λ (es : List Entry). length es) c.entries-2.ensures.value, ap (λ (es : List Entry). length es) given) in
    let all : n ≤ length c.entries-2.result.now = omega (arith, few, ap (λ (es : List Entry). length es) given) in
    tells_trimmed old _ n few
    (λ s g outlined legal is. c.in_ok-advance.ensures.outlines s g (subst (λ (b : Checkpoint). Outlines b s) (sym base) outlined) (subst (λ w. IsLegalFrom w s g) (sym width) legal) (is ∙ ap (take n) (sym given)))
    (omega (arith, c.in_ok-advance.ensures.trimmed, ap (λ (b : Checkpoint). b.trimmed) base, length-take-le n c.entries-2.result.now all)) (c.give_up.ensures.entries ∙ ap (drop n) entries) width
    (ap (λ (s : Contents). s.catalogue) c.self-2.view_is) (ap (λ (s : Contents). s.truth) c.self-2.view_is)
