-- What a base's names have after some were taken out or put in.
use Rattle.std.proofs.Common.{◌≡◌, ℕ, ◌+◌, ◌<◌, Bool, true, false, not, ◌&&◌, ◌||◌, List, [], ◌∷◌, ◌++◌, map, take, length, get_or, Option, None, Some, cond, refl, sym, ap, ◌∙◌, subst, inl, inr}
use Rattle.std.specs.Prelude.{All, IfSome, IsSome}
use Rattle.std.specs.Option.{is_some, option_or}
use Rattle.std.specs.List.Sorted.{IsStrictlySortedBy}
use Rattle.std.specs.Map.{keys_of, values_of, lookup}
use Rattle.std.specs.BTreeMap.{BTreeMap, IsOrdered, get, is_at}
use Rattle.std.specs.BTreeSet as tree
use Rattle.std.specs.Ordering.{eq_by_cmp}
use Rattle.std.specs.Cmp.Lexicographic.{nat_list_cmp_total}
use Rattle.std.proofs.lemmas.Cmp.{eq_by_cmp_equiv}
use Rattle.std.proofs.lemmas.List.Folds.{list_any_more, list_any-append, list_any_at}
use Rattle.std.proofs.lemmas.Bool.{false≢true, or_cases, cases_Bool}
use Rattle.std.proofs.lemmas.Map.Lookups.{exact_bytes}
use Rattle.std.proofs.lemmas.List.Elements.{All-nil, All-cons, All-head, All-tail}
use Rattle.std.proofs.lemmas.Map.Keys.{IsDistinct-from_sorted}
use Rattle.std.proofs.lemmas.Map.Views.{tells_apart, All-values_from_lookup, IfSome-lookup_from_All}
use Rattle.std.proofs.lemmas.Simd.{map-map}
use Rattle.sealed.specs.Blob.{pair_cmp}
use Rattle.history.specs.Names.{name_cmp}
use Rattle.history.specs.Base.{Outline, IsRising}
use Rattle.history.specs.Metadata.{outline_kept, PairsRise}
use Rattle.history.specs.Parts.{has_name, is_changed, can_change, name_of}
use Rattle.history.specs.declared.note.Entry.{Entry}
use Rattle.history.specs.declared.metadata.BlobMetadata.{BlobMetadata}
use Rattle.history.proofs.Replaying.{at_is}

none_more : (a b : Bool) (x : Option BlobMetadata) → cond b None (cond a None x) ≡ cond (a || b) None x
none_more true true x = refl
none_more true false x = refl
none_more false true x = refl
none_more false false x = refl

-- one name more is out
pub out_more : (gone : List (List ℕ)) (i : ℕ) (n q : List ℕ) (old was now : Option BlobMetadata) → i < length gone → n ≡ get_or gone i n
    → was ≡ cond (has_name (take i gone) q) None old → now ≡ cond (is_at (name_cmp n) q) None was → now ≡ cond (has_name (take (i + 1) gone) q) None old
out_more gone i n q old was now l is before step =
    step ∙ (λ j. cond (at_is n q j) None (before j)) ∙ none_more (has_name (take i gone) q) (eq_by_cmp name_cmp q n) old
    ∙ ap (λ b. cond b None old) (ap (λ m. has_name (take i gone) q || eq_by_cmp name_cmp q m) is ∙ sym (list_any_more (eq_by_cmp name_cmp q) gone i n l))

-- a name that ties with another is it
pub tied : (n q : List ℕ) → is_at (name_cmp n) q ≡ true → n ≡ q
tied n q t = tells_apart exact_bytes n q t

-- one entry more
pub changed_more : (es : List Entry) (i : ℕ) (e : Entry) (q : List ℕ) → i < length es → e ≡ get_or es i e
    → is_changed (take (i + 1) es) q ≡ (is_changed (take i es) q || (can_change e.call && eq_by_cmp name_cmp q (name_of e.call)))
changed_more es i e q l is =
    list_any_more (λ (x : Entry). can_change x.call && eq_by_cmp name_cmp q (name_of x.call)) es i e l
    ∙ ap (λ (x : Entry). is_changed (take i es) q || (can_change x.call && eq_by_cmp name_cmp q (name_of x.call))) (sym is)

gone_bits : (here c p A : Bool) (x : Option BlobMetadata) → cond here (cond (c && not p) None (cond (A && not p) None x)) (cond (A && not p) None x) ≡ cond ((A || (c && here)) && not p) None x
gone_bits true true true true x = refl
gone_bits true true true false x = refl
gone_bits true true false true x = refl
gone_bits true true false false x = refl
gone_bits true false true true x = refl
gone_bits true false true false x = refl
gone_bits true false false true x = refl
gone_bits true false false false x = refl
gone_bits false true true true x = refl
gone_bits false true true false x = refl
gone_bits false true false true x = refl
gone_bits false true false false x = refl
gone_bits false false true true x = refl
gone_bits false false true false x = refl
gone_bits false false false true x = refl
gone_bits false false false false x = refl

module _ (part : BTreeMap (List ℕ) BlobMetadata) (es : List Entry) (i : ℕ) (e : Entry) (l : i < length es) (is : e ≡ get_or es i e) where
  after_one : (q : List ℕ) (old was : Option BlobMetadata) → was ≡ cond (is_changed (take i es) q && not (is_some (get name_cmp part q))) None old
      → cond (eq_by_cmp name_cmp q (name_of e.call)) (cond (can_change e.call && not (is_some (get name_cmp part q))) None was) was
      ≡ cond (is_changed (take (i + 1) es) q && not (is_some (get name_cmp part q))) None old
  after_one q old was before =
      ap (λ (o : Option BlobMetadata). cond (eq_by_cmp name_cmp q (name_of e.call)) (cond (can_change e.call && not (is_some (get name_cmp part q))) None o) o) before
      ∙ gone_bits (eq_by_cmp name_cmp q (name_of e.call)) (can_change e.call) (is_some (get name_cmp part q)) (is_changed (take i es) q) old
      ∙ ap (λ b. cond (b && not (is_some (get name_cmp part q))) None old) (sym (changed_more es i e q l is))

  by_stay : (here c p : Bool) (was : Option BlobMetadata) → (here ≡ true → (not c || p) ≡ true) → was ≡ cond here (cond (c && not p) None was) was
  by_stay false c p was t = refl
  by_stay true false p was t = refl
  by_stay true true true was t = refl
  by_stay true true false was t = absurd (false≢true (t refl))

  by_go : (here c p : Bool) (was : Option BlobMetadata) → (here ≡ true → (not c || p) ≡ false) → cond here None was ≡ cond here (cond (c && not p) None was) was
  by_go false c p was t = refl
  by_go true true false was t = refl
  by_go true false p was t = absurd (false≢true (sym (t refl)))
  by_go true true true was t = absurd (false≢true (sym (t refl)))

  same_place : (q : List ℕ) (b : Bool) → (not (can_change e.call) || is_some (get name_cmp part (name_of e.call))) ≡ b → eq_by_cmp name_cmp q (name_of e.call) ≡ true
      → (not (can_change e.call) || is_some (get name_cmp part q)) ≡ b
  same_place q b t here = subst (λ n. (not (can_change e.call) || is_some (get name_cmp part n)) ≡ b) (tied (name_of e.call) q (at_is (name_of e.call) q ∙ here)) t

  -- the next entry's name stays, or is taken out
  pub out_stays : (not (can_change e.call) || is_some (get name_cmp part (name_of e.call))) ≡ true → (q : List ℕ) (old was : Option BlobMetadata)
      → was ≡ cond (is_changed (take i es) q && not (is_some (get name_cmp part q))) None old → was ≡ cond (is_changed (take (i + 1) es) q && not (is_some (get name_cmp part q))) None old
  out_stays t q old was before = by_stay (eq_by_cmp name_cmp q (name_of e.call)) (can_change e.call) (is_some (get name_cmp part q)) was (same_place q true t) ∙ after_one q old was before

  pub out_goes : (not (can_change e.call) || is_some (get name_cmp part (name_of e.call))) ≡ false → (n : List ℕ) → n ≡ name_of e.call → (q : List ℕ) (old was now : Option BlobMetadata)
      → was ≡ cond (is_changed (take i es) q && not (is_some (get name_cmp part q))) None old → now ≡ cond (is_at (name_cmp n) q) None was
      → now ≡ cond (is_changed (take (i + 1) es) q && not (is_some (get name_cmp part q))) None old
  out_goes t n same q old was now before step =
      step ∙ ap (λ m. cond (is_at (name_cmp m) q) None was) same ∙ ap (λ b. cond b None was) (at_is (name_of e.call) q)
      ∙ by_go (eq_by_cmp name_cmp q (name_of e.call)) (can_change e.call) (is_some (get name_cmp part q)) was (same_place q false t) ∙ after_one q old was before

-- the part's first name goes over
pub fill_step : (n q : List ℕ) (k : BlobMetadata) (p p' x x' : Option BlobMetadata) → (n ≡ q → p ≡ Some k) → p' ≡ cond (is_at (name_cmp n) q) None p → x' ≡ cond (is_at (name_cmp n) q) (Some k) x
    → option_or p' x' ≡ option_or p x
fill_step n q k p p' x x' here ep ex = (λ i. option_or (ep i) (ex i)) ∙ by (is_at (name_cmp n) q) refl
  where
    by : (b : Bool) → is_at (name_cmp n) q ≡ b → option_or (cond b None p) (cond b (Some k) x) ≡ option_or p x
    by true t = sym (ap (λ (o : Option BlobMetadata). option_or o x) (here (tied n q t)))
    by false t = refl

pub placed_step : (b : Bool) (k : BlobMetadata) (p p' x x' : Option BlobMetadata) → p' ≡ cond b None p → x' ≡ cond b (Some k) x → (IsSome p → IsSome x) → IsSome p' → IsSome x'
placed_step true k p p' x x' ep ex old h = absurd (false≢true (subst IsSome ep h))
placed_step false k p p' x x' ep ex old h = subst IsSome (sym ex) (old (subst IsSome ep h))

-- ---- the names that are missing
some_cons : (h : Bool) (k : BlobMetadata) (o : Option BlobMetadata) → cond h true (is_some o) ≡ is_some (cond h (Some k) o)
some_cons true k o = refl
some_cons false k o = refl

pushed : (f h s m : Bool) → (h ≡ true → m ≡ false) → ((f || (h || false)) || (s && not m)) ≡ (f || (cond h true s && not m))
pushed true h s m t = refl
pushed false false s m t = refl
pushed false true s false t = refl
pushed false true s true t = absurd (false≢true (sym (t refl)))

stayed : (f h s m : Bool) → (h ≡ true → m ≡ true) → (f || (s && not m)) ≡ (f || (cond h true s && not m))
stayed true h s m t = refl
stayed false false s m t = refl
stayed false true true m t = refl
stayed false true false true t = refl
stayed false true false false t = absurd (false≢true (t refl))

module _ (fresh : List (List ℕ)) (n q : List ℕ) (k : BlobMetadata) (rest it : List (List ℕ × BlobMetadata)) (m : List ℕ → Bool) (r : Bool) (at : it ≡ (n, k) ∷ rest)
    (before : (has_name fresh q || (is_some (lookup (is_at (name_cmp q)) it) && not (m q))) ≡ r) where
  with_first : (has_name fresh q || (cond (eq_by_cmp name_cmp q n) true (is_some (lookup (is_at (name_cmp q)) rest)) && not (m q))) ≡ r
  with_first =
      ap (λ s. has_name fresh q || (s && not (m q))) (some_cons (eq_by_cmp name_cmp q n) k (lookup (is_at (name_cmp q)) rest))
      ∙ ap (λ (l : List (List ℕ × BlobMetadata)). has_name fresh q || (is_some (lookup (is_at (name_cmp q)) l) && not (m q))) (sym at) ∙ before

  same_name : (b : Bool) → m n ≡ b → eq_by_cmp name_cmp q n ≡ true → m q ≡ b
  same_name b t here = subst (λ p. m p ≡ b) (tied n q (at_is n q ∙ here)) t

  pub absent_push : (now : List (List ℕ)) → now ≡ fresh ++ n ∷ [] → m n ≡ false → (has_name now q || (is_some (lookup (is_at (name_cmp q)) rest) && not (m q))) ≡ r
  absent_push now is none =
      ap (λ b. b || (is_some (lookup (is_at (name_cmp q)) rest) && not (m q))) (ap (λ l. has_name l q) is ∙ list_any-append (eq_by_cmp name_cmp q) fresh (n ∷ []))
      ∙ pushed (has_name fresh q) (eq_by_cmp name_cmp q n) (is_some (lookup (is_at (name_cmp q)) rest)) (m q) (same_name false none) ∙ with_first

  pub absent_stay : m n ≡ true → (has_name fresh q || (is_some (lookup (is_at (name_cmp q)) rest) && not (m q))) ≡ r
  absent_stay there = stayed (has_name fresh q) (eq_by_cmp name_cmp q n) (is_some (lookup (is_at (name_cmp q)) rest)) (m q) (same_name true there) ∙ with_first

-- ---- room for them
pub inside_is : (items : List (List ℕ)) (i : ℕ) (n q : List ℕ) → i < length items → n ≡ get_or items i n → has_name items q ≡ false → is_at (name_cmp n) q ≡ false
inside_is items i n q l is none =
    elim (cases_Bool (is_at (name_cmp n) q)) [
      | inl t ↦ absurd (false≢true (sym none ∙ list_any_at (eq_by_cmp name_cmp q) items i n l (ap (eq_by_cmp name_cmp q) (sym is) ∙ sym (at_is n q) ∙ t)))
      | inr t ↦ t
    ]

pub room_kept : (b : Bool) (k : BlobMetadata) (was now : Option BlobMetadata) → now ≡ cond b (Some k) was → IsSome was → IsSome now
room_kept true k was now step h = subst IsSome (sym step) refl
room_kept false k was now step h = subst IsSome (sym step) h

pub room_more : (items : List (List ℕ)) (i : ℕ) (n q : List ℕ) (k : BlobMetadata) (was now : Option BlobMetadata) → i < length items → n ≡ get_or items i n → now ≡ cond (is_at (name_cmp n) q) (Some k) was
    → (has_name (take i items) q ≡ true → IsSome was) → has_name (take (i + 1) items) q ≡ true → IsSome now
room_more items i n q k was now l is step before h =
    elim (or_cases (has_name (take i items) q) (eq_by_cmp name_cmp q n) (ap (λ m. has_name (take i items) q || eq_by_cmp name_cmp q m) is ∙ sym (list_any_more (eq_by_cmp name_cmp q) items i n l) ∙ h)) [
      | inl old ↦ room_kept (is_at (name_cmp n) q) k was now step (before old)
      | inr new ↦ subst IsSome (sym (step ∙ ap (λ b. cond b (Some k) was) (at_is n q ∙ new))) refl
    ]

and_not : (b : Bool) → true ≡ (b && false) → ⊥
and_not true e = false≢true (sym e)
and_not false e = false≢true (sym e)

-- a name has its old value once the added places are removed
pub back : (f : Bool) (p o was now : Option BlobMetadata) → f ≡ (is_some p && not (is_some o)) → (f ≡ false → was ≡ o) → now ≡ cond f None was → now ≡ o
back true p None was now is same e = e
back true p (Some k) was now is same e = absurd (and_not (is_some p) is)
back false p o was now is same e = e ∙ same refl

-- ---- the part: one entry more adds no name, one that there is none of, or one
pub part_stay : (A c here : Bool) (x was : Option BlobMetadata) → was ≡ cond A x None → (here ≡ true → (not c || is_some was) ≡ true) → was ≡ cond (A || (c && here)) x None
part_stay true c here x was e t = e
part_stay false false here x was e t = e
part_stay false true false x was e t = e
part_stay false true true x was e t = absurd (false≢true (sym (ap is_some e) ∙ t refl))

pub part_none : (A c here : Bool) (x was : Option BlobMetadata) → was ≡ cond A x None → (here ≡ true → x ≡ None) → was ≡ cond (A || (c && here)) x None
part_none true c here x was e t = e
part_none false false here x was e t = e
part_none false true false x was e t = e
part_none false true true x was e t = e ∙ sym (t refl)

pub part_put : (A here : Bool) (k : BlobMetadata) (x was now : Option BlobMetadata) → now ≡ cond here (Some k) was → was ≡ cond A x None → (here ≡ true → x ≡ Some k) → now ≡ cond (A || (true && here)) x None
part_put true true k x was now s e t = s ∙ sym (t refl)
part_put false true k x was now s e t = s ∙ sym (t refl)
part_put true false k x was now s e t = s ∙ e
part_put false false k x was now s e t = s ∙ e

-- ---- a name after all three steps
settled : (changed : Bool) (p old room left now : Option BlobMetadata) → (p ≡ None → room ≡ old) → left ≡ cond (changed && not (is_some p)) None room → now ≡ option_or p left
    → now ≡ option_or p (cond changed None old)
settled true None old room left now same out filled = filled ∙ out
settled false None old room left now same out filled = filled ∙ out ∙ same refl
settled true (Some k) old room left now same out filled = filled
settled false (Some k) old room left now same out filled = filled

-- what holds of what it can have holds of what it has
rises_or : (p old : Option BlobMetadata) (changed : Bool) (P : BlobMetadata → Type 0) → IfSome p P → IfSome old P → IfSome (option_or p (cond changed None old)) P
rises_or None old true P a b = tt
rises_or None old false P a b = b
rises_or (Some k) old changed P a b = a

-- the outlines of names in order whose pairs rise
outlines_rise : (names : BTreeMap (List ℕ) BlobMetadata) → IsOrdered name_cmp names → PairsRise names → IsRising (map outline_kept names.entries)
outlines_rise names order rise = (
  subst (IsStrictlySortedBy name_cmp) (sym (map-map (λ (o : Outline). o.name) outline_kept names.entries)) order,
  by names.entries (All-values_from_lookup (eq_by_cmp_equiv nat_list_cmp_total) (λ (k : BlobMetadata). tree.IsOrdered pair_cmp k.lost) names.entries (IsDistinct-from_sorted name_cmp (keys_of names.entries) order) rise),
)
  where
    by : (es : List (List ℕ × BlobMetadata)) → All (λ (k : BlobMetadata). tree.IsOrdered pair_cmp k.lost) (values_of es) → All (λ (o : Outline). IsStrictlySortedBy pair_cmp o.lost) (map outline_kept es)
    by [] a = All-nil (λ (o : Outline). IsStrictlySortedBy pair_cmp o.lost)
    by (e ∷ es) a =
        All-cons (λ (o : Outline). IsStrictlySortedBy pair_cmp o.lost) (outline_kept e) (map outline_kept es)
        (All-head (λ (k : BlobMetadata). tree.IsOrdered pair_cmp k.lost) e.1 (values_of es) a) (by es (All-tail (λ (k : BlobMetadata). tree.IsOrdered pair_cmp k.lost) e.1 (values_of es) a))

-- and the other way
pairs_rise_in : (names : BTreeMap (List ℕ) BlobMetadata) → IsRising (map outline_kept names.entries) → PairsRise names
pairs_rise_in names rise q = IfSome-lookup_from_All (λ (k : BlobMetadata). tree.IsOrdered pair_cmp k.lost) (is_at (name_cmp q)) names.entries (by names.entries rise.1)
  where
    by : (es : List (List ℕ × BlobMetadata)) → All (λ (o : Outline). IsStrictlySortedBy pair_cmp o.lost) (map outline_kept es) → All (λ (k : BlobMetadata). tree.IsOrdered pair_cmp k.lost) (values_of es)
    by [] a = All-nil (λ (k : BlobMetadata). tree.IsOrdered pair_cmp k.lost)
    by (e ∷ es) a =
        All-cons (λ (k : BlobMetadata). tree.IsOrdered pair_cmp k.lost) e.1 (values_of es)
        (All-head (λ (o : Outline). IsStrictlySortedBy pair_cmp o.lost) (outline_kept e) (map outline_kept es) a)
        (by es (All-tail (λ (o : Outline). IsStrictlySortedBy pair_cmp o.lost) (outline_kept e) (map outline_kept es) a))

-- so the base's outlines rise after the steps
module _ (old room left now part : BTreeMap (List ℕ) BlobMetadata) (es : List Entry)
    (others : (q : List ℕ) → get name_cmp part q ≡ None → get name_cmp room q ≡ get name_cmp old q)
    (out : (q : List ℕ) → get name_cmp left q ≡ cond (is_changed es q && not (is_some (get name_cmp part q))) None (get name_cmp room q))
    (filled : (q : List ℕ) → get name_cmp now q ≡ option_or (get name_cmp part q) (get name_cmp left q)) where
  pub settled_at : (q : List ℕ) → get name_cmp now q ≡ option_or (get name_cmp part q) (cond (is_changed es q) None (get name_cmp old q))
  settled_at q = settled (is_changed es q) (get name_cmp part q) (get name_cmp old q) (get name_cmp room q) (get name_cmp left q) (get name_cmp now q) (others q) (out q) (filled q)

  pub settled_rise : IsRising (map outline_kept old.entries) → PairsRise part → IsOrdered name_cmp now → IsRising (map outline_kept now.entries)
  settled_rise old_rise part_rise order =
      outlines_rise now order
      (λ q. subst (λ found. IfSome found (λ k. tree.IsOrdered pair_cmp k.lost)) (sym (settled_at q))
      (rises_or (get name_cmp part q) (get name_cmp old q) (is_changed es q) (λ k. tree.IsOrdered pair_cmp k.lost) (part_rise q) (pairs_rise_in old old_rise q)))
