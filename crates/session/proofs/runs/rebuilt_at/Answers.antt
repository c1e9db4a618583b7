use Rattle.std.proofs.Common.{◌≡◌, ◌+◌, ◌-◌, ◌*◌, ◌/◌, ◌<◌, ◌≤◌, ◌^◌, ℕ, List, [], length, drop, max, sym, ap, ◌∙◌, subst, rules, arith}
use Rattle.std.specs.Prelude.{slice_index_or}
use Rattle.std.proofs.Math.Nat.{div-mul-le_self}
use Rattle.std.proofs.lemmas.List.{length-map, get_or-map, length-drop, take_all}
use Rattle.sealed.specs.declared.value.Sealed.{Sealed}
use Rattle.lent.specs.declared.grant.Grant.{Grant}
use Rattle.session.specs.LentFrom.{lists_of}
use Rattle.session.specs.Runs.{IsRunFrom}
use Rattle.session.proofs.Running.{index, begin, has_index, is_rebuilt_run}
use Rattle.session.proofs.runs.rebuilt_at.Goals.{After-as_slice}
use Rattle.session.proofs.runs.rebuilt_at.Goals as goal

pub overflow_mul-at : goal.overflow_mul-at
overflow_mul-at c =
    let g : Grant = c.args.grant.now in
    let in_range : c.deref.result.now.len < 2 ^ 64 = search rules in
    let same : c.deref.result.now.len ≡ g.sealed.value.len = ap (λ (t : Sealed). t.len) c.deref.ensures in
    let low : (g.start + c.args.from) / c.from-width.result * c.from-width.result ≤ g.start + c.args.from = div-mul-le_self (g.start + c.args.from) c.from-width.result in
    record { fits = omega (arith, low, c.requires.inside, g.inside, in_range, same) }

-- the index of the piece is below the number of rebuilt pieces
bounds : (c : goal.After-max-begin) → (c.args.grant.now.start + c.args.from) / c.from-width.result - c.args.grant.now.start / c.from-width.result < length c.args.rebuilt.now
bounds c =
    let g : Grant = c.args.grant.now in
    let wide : c.from-width.result ≡ g.sealed.value.width = c.from-width.ensures ∙ c.get.ensures.value ∙ ap (λ (t : Sealed). t.width) c.deref.ensures in
    let index_is : (g.start + c.args.from) / c.from-width.result - g.start / c.from-width.result ≡ index g c.args.from c.requires.inside = ap (λ w. (g.start + c.args.from) / w - g.start / w) wide in
    omega (arith, index_is, has_index g c.args.from c.requires.inside (lists_of c.args.rebuilt.now) c.requires.rebuilt, length-map c.args.rebuilt.now (λ v. v.items))

pub offset_bounds-rebuilt-piece : goal.offset_bounds-rebuilt-piece
offset_bounds-rebuilt-piece c = let inside = bounds c in search rules

pub bounds-rebuilt-piece : goal.bounds-rebuilt-piece
bounds-rebuilt-piece c = bounds c

-- the rebuilt bytes of the piece, from the byte on
module _ (c : After-as_slice) where
  abbrev g : Grant
  g = c.args.grant.now

  abbrev place : ℕ
  place = g.start + c.args.from - c.max-begin.result

  wide : c.from-width.result ≡ g.sealed.value.width
  wide = c.from-width.ensures ∙ c.get.ensures.value ∙ ap (λ (t : Sealed). t.width) c.deref.ensures

  begin_is : c.max-begin.result ≡ begin g c.args.from c.requires.inside
  begin_is = c.max-begin.ensures ∙ ap (λ w. max g.start ((g.start + c.args.from) / w * w)) wide

  piece_is : c.as_slice.result.now ≡ slice_index_or (lists_of c.args.rebuilt.now) (index g c.args.from c.requires.inside) []
  piece_is =
      let vs = c.args.rebuilt.now in
      let index_is : (g.start + c.args.from) / c.from-width.result - g.start / c.from-width.result ≡ index g c.args.from c.requires.inside = ap (λ w. (g.start + c.args.from) / w - g.start / w) wide in
      let inside : (g.start + c.args.from) / c.from-width.result - g.start / c.from-width.result < length vs =
      omega (arith, index_is, has_index g c.args.from c.requires.inside (lists_of vs) c.requires.rebuilt, length-map vs (λ v. v.items)) in
      c.as_slice.ensures.value ∙ ap (λ v. v.items) c.index-rebuilt-piece.is
      ∙ sym (get_or-map (λ v. v.items) vs ((g.start + c.args.from) / c.from-width.result - g.start / c.from-width.result) c.index-rebuilt-piece.result [] inside)
      ∙ ap (λ k. slice_index_or (lists_of vs) k []) index_is

  run : (place ≤ length c.as_slice.result.now) × IsRunFrom g c.args.from (drop place c.as_slice.result.now)
  run =
      let s = c.requires.stands in
      let is = is_rebuilt_run g c.args.from c.requires.inside (lists_of c.args.rebuilt.now) c.requires.rebuilt c.requires.absent s.0 s.1 s.2 in
      subst (λ (xs : List ℕ). (place ≤ length xs) × IsRunFrom g c.args.from (drop place xs)) (sym piece_is)
      (subst (λ b. (g.start + c.args.from - b ≤ length (slice_index_or (lists_of c.args.rebuilt.now) (index g c.args.from c.requires.inside) []))
      × IsRunFrom g c.args.from (drop (g.start + c.args.from - b) (slice_index_or (lists_of c.args.rebuilt.now) (index g c.args.from c.requires.inside) []))) (sym begin_is) is)

pub slice_bounds-result-count : goal.slice_bounds-result-count
slice_bounds-result-count c = (run c).0

pub slice_bounds-result-start : goal.slice_bounds-result-start
slice_bounds-result-start c = let fits = (run c).0 in search rules

pub returns : goal.returns
returns c =
    let a = (goal.at.returns c).After-as_slice in
    let fits = (run a).0 in
    let xs : List ℕ = drop (place a) a.as_slice.result.now in
    record {
      run = subst (IsRunFrom a.args.grant.now a.args.from) (sym (take_all (length a.as_slice.result.now - place a) xs (omega (arith, length-drop (place a) a.as_slice.result.now)))) (run a).1;
    }
