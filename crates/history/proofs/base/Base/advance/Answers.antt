use Rattle.std.proofs.Common.{◌≡◌, ℕ, ◌+◌, List, None, cond, map, ap, refl, sym, ◌∙◌, subst, arith}
use Rattle.std.specs.Prelude.{count_by}
use Rattle.std.specs.List.Sorted.{IsStrictlySortedBy}
use Rattle.std.proofs.lemmas.Simd.{map-map}
use Rattle.history.specs.Names.{name_cmp}
use Rattle.std.specs.Option.{option_or}
use Rattle.std.specs.BTreeMap.{get}
use Rattle.history.specs.Parts.{changes_of, is_changed}
use Rattle.history.specs.declared.note.Entry.{Entry}
use Rattle.history.specs.History.{is_put}
use Rattle.history.specs.Base.{Checkpoint, Outline}
use Rattle.history.specs.Metadata.{outline_kept, views_of}
use Rattle.history.specs.Views.{AreNoted, all_next}
use Rattle.history.specs.declared.replay.Replay.{Replay}
use Rattle.history.proofs.Framing.{changed_alike, changes_twice}
use Rattle.history.proofs.Puts.{puts_among}
use Rattle.history.proofs.Following.{outlined_after, follows_laid}
use Rattle.history.proofs.Settling.{settled_at, settled_rise}
use Rattle.history.proofs.base.Base.advance.Goals as goal

pub make_room-requires : goal.make_room-requires
make_room-requires c = subst (IsStrictlySortedBy name_cmp) (map-map (λ (o : Outline). o.name) outline_kept c.self.inside.names.entries) c.self.invariant.1.0

pub invariant_of-self-2 : goal.invariant_of-self-2
invariant_of-self-2 c =
    let order = c.fill.ensures.ordered (c.take_out.ensures.ordered c.make_room.ensures.ordered) in (
      omega (arith, c.requires.room, ap (λ (b : Checkpoint). b.trimmed) c.self.view_is),
      settled_rise c.self.inside.names c.make_room.new.names c.take_out.new.names c.fill.new.names c.take_in.new.self.names (map (λ x. x.now) c.args.changes.now) c.in_ok-make_room.ensures.others c.take_out.ensures.names c.fill.ensures.names
          c.self.invariant.1 (c.in_ok-take_in.ensures.rising c.in_ok-part.ensures.rising) order,
    )

-- the changes among the changes are all of them
changes_same : (changes es : List Entry) → changes ≡ changes_of es → changes_of changes ≡ changes_of es
changes_same changes es is = ap changes_of is ∙ changes_twice es

-- and the puts that are counted among them are all puts
counted : (changes es : List Entry) → changes_of changes ≡ changes_of es → count_by is_put changes ≡ count_by is_put es
counted changes es same = sym (puts_among changes) ∙ ap (count_by is_put) same ∙ puts_among es

pub returns-clause-puts : goal.returns-clause-puts
returns-clause-puts c =
    let changes = map (λ x. x.now) c.args.changes.now in
    let all = counted changes c.args.entries.now (changes_same changes c.args.entries.now c.requires.changes) in
    omega (arith, ap (λ (b : Checkpoint). b.puts) c.self.view_is, c.count_puts.ensures, all)

pub returns-clause-outlines : goal.returns-clause-outlines
returns-clause-outlines c =
    let w : ℕ = c.args.width in
    let base = c.args.self.now in
    let es = c.args.entries.now in
    let changes = map (λ x. x.now) c.args.changes.now in
    let same = changes_same changes es c.requires.changes in
    let alike = λ (q : List ℕ). sym (changed_alike changes q) ∙ ap (λ (cs : List Entry). is_changed cs q) same ∙ changed_alike es q in
    let old = c.self.inside.names in
    let now = c.fill.new.names in
    let all : Replay = record { names = old; puts = c.self.inside.puts; width = w } in
    let part = c.in_ok-part.part in
    let from = c.in_ok-part.ensures in
    let done = c.take_in.new.self in
    let after : Replay = record { names = now; puts = done.puts; width = w } in
    let order = c.fill.ensures.ordered (c.take_out.ensures.ordered c.make_room.ensures.ordered) in
    let steps = settled_at old c.make_room.new.names c.take_out.new.names now done.names changes c.in_ok-make_room.ensures.others c.take_out.ensures.names c.fill.ensures.names in
    let rise = settled_rise old c.make_room.new.names c.take_out.new.names now done.names changes c.in_ok-make_room.ensures.others c.take_out.ensures.names c.fill.ensures.names c.self.invariant.1
    (c.in_ok-take_in.ensures.rising from.rising) order in
    let puts : c.self.inside.puts + c.count_puts.result ≡ base.puts + count_by is_put es = omega (arith, ap (λ (b : Checkpoint). b.puts) c.self.view_is, c.count_puts.ensures, counted changes es same) in
    let follows = subst (λ (cs : List Entry). AreNoted w (views_of part) cs → views_of done ≡ all_next (views_of part) cs) same
    (subst (λ (x : ℕ). AreNoted x (views_of part) (changes_of changes) → views_of done ≡ all_next (views_of part) (changes_of changes)) from.width c.in_ok-take_in.ensures.views) in
    let given = λ (q : List ℕ). from.names q ∙ ap (λ b. cond b (get name_cmp old q) None) (alike q) in
    let settled = λ (q : List ℕ). steps q ∙ ap (λ b. option_or (get name_cmp done.names q) (cond b None (get name_cmp old q))) (alike q) in
    outlined_after w base _ all after es (ap (λ (b : Checkpoint). b.names) c.self.view_is) (ap (λ (b : Checkpoint). b.puts) c.self.view_is) (follows_laid w es all part done now given from.puts follows settled)
    rise refl puts
