-- Any order of the shards' calls is legal as the calls of one object over one map.
use Rattle.std.proofs.Common.{◌≡◌, ◌≢◌, ◌⊎◌, inl, inr, ℕ, ◌+◌, ◌<◌, ◌==◌, cond, true, false, List, [], ◌∷◌, length, Option, None, Some, MatchOption, refl, ap, sym, subst, ◌∙◌}
use Rattle.std.specs.Prelude.{◌↔◌}
use Rattle.std.specs.FinMap as finite
use Rattle.std.specs.FinSet as set
use Rattle.std.specs.Ordering.{eq_by_cmp}
use Rattle.std.specs.Cmp.Lexicographic.{nat_list_cmp_total}
use Rattle.std.proofs.lemmas.Bool.{eq-eqb}
use Rattle.std.proofs.lemmas.Bool.Decides.{eqb_tells}
use Rattle.std.proofs.lemmas.Map.Lookups.{exact_bytes}
use Rattle.std.proofs.lemmas.Map.Views.{tells_apart}
use Rattle.one_map.proofs.Hash.{shard_below_count}
use Rattle.gate.proofs.Lists.{not_true}
use Rattle.sealed.specs.Blob.{Lost, nothing}
use Rattle.history.specs.Names.{name_cmp}
use Rattle.history.specs.State.{Blob, State, empty_state}
use Rattle.history.specs.declared.note.Note.{Note}
use Rattle.history.specs.declared.note.Note.TheVariants.{Stored, NoName, Lost as LostNow, Repaired, Deleted, Shape}
use Rattle.history.specs.Step.{Operation, put, read, lose, repair, restore, delete, stat, IsReply, IsReadReply, IsLoseReply, IsRepairReply, IsRestoreReply, after, with_lost, stripes_of}
use Rattle.history.specs.History.{Event, History, call_of, is_put_call, IsLegalFrom, after_all, state_of}
use Rattle.history.proofs.Puts.{puts-after}
use Rattle.one_map.specs.Hash.{shard_of}
use Rattle.one_map.specs.OneMap.{name_of, OneMap, empty_map, state_at, operation_shard, map_after, map_after_all, IsLegalOneMapFrom, map_of, IsLegalOneMap, part, AreLegalParts}

-- ---- one call looks at its name and at the number of puts alone
reply_like : (w : ℕ) (s t : State) (o : Operation) (m : Note) → finite.get s.names (name_of o) ≡ finite.get t.names (name_of o) → s.puts ≡ t.puts → IsReply w s o m → IsReply w t o m
reply_like w s t (put n code b) m found puts r = (r.0, r.1 ∙ ap (λ x. Stored (x + 1)) puts)
reply_like w s t (read n start len) m found puts r = subst (λ x. IsReadReply w x start len m) found r
reply_like w s t (lose n j f) m found puts r = subst (λ x. IsLoseReply w x j f m) found r
reply_like w s t (repair n j f) m found puts r = subst (λ x. IsRepairReply w x j f m) found r
reply_like w s t (restore n v j f) m found puts r = subst (λ x. IsRestoreReply w x v j f m) found r
reply_like w s t (delete n) m found puts r = subst (λ x. MatchOption x (m ≡ NoName) (λ blob. m ≡ Deleted blob.version)) found r
reply_like w s t (stat n) m found puts r =
    subst (λ x. MatchOption x (m ≡ NoName) (λ blob. m ≡ Shape blob.version (length blob.bytes) (stripes_of w blob) (set.len blob.lost))) found r

lost_like : (s t : State) (n q : List ℕ) (x : Option Blob) (change : Lost → Lost) → finite.get s.names q ≡ finite.get t.names q
    → finite.get (with_lost s n x change).names q ≡ finite.get (with_lost t n x change).names q
lost_like s t n q None change e = e
lost_like s t n q (Some b) change e =
    let kept : Blob = record b { lost = change b.lost } in
    finite.get-insert nat_list_cmp_total s.names n kept q ∙ ap (λ x. cond (eq_by_cmp name_cmp q n) (Some kept) x) e ∙ sym (finite.get-insert nat_list_cmp_total t.names n kept q)

-- what a name has after a call depends on what it had, and on what the call's name had
after_like : (s t : State) (o : Operation) (m : Note) (q : List ℕ) → finite.get s.names (name_of o) ≡ finite.get t.names (name_of o) → s.puts ≡ t.puts → finite.get s.names q ≡ finite.get t.names q
    → finite.get (after s o m).names q ≡ finite.get (after t o m).names q
after_like s t (put n code b) m q found puts e =
    finite.get-insert nat_list_cmp_total s.names n (record { version = s.puts + 1; bytes = b; code = code; lost = nothing }) q
    ∙ (λ i. cond (eq_by_cmp name_cmp q n) (Some (record { version = puts i + 1; bytes = b; code = code; lost = nothing })) (e i))
    ∙ sym (finite.get-insert nat_list_cmp_total t.names n (record { version = t.puts + 1; bytes = b; code = code; lost = nothing }) q)
after_like s t (read n start len) m q found puts e = e
after_like s t (lose n j f) (LostNow v) q found puts e =
    let change : Lost → Lost = λ lost. set.insert lost (j, f) in
    ap (λ x. finite.get (with_lost s n x change).names q) found ∙ lost_like s t n q (finite.get t.names n) change e
after_like s t (lose n j f) m q found puts e = e
after_like s t (repair n j f) (Repaired v) q found puts e =
    let change : Lost → Lost = λ lost. set.remove lost (j, f) in
    ap (λ x. finite.get (with_lost s n x change).names q) found ∙ lost_like s t n q (finite.get t.names n) change e
after_like s t (repair n j f) m q found puts e = e
after_like s t (restore n x j f) (Repaired v) q found puts e =
    let change : Lost → Lost = λ lost. set.remove lost (j, f) in
    ap (λ x. finite.get (with_lost s n x change).names q) found ∙ lost_like s t n q (finite.get t.names n) change e
after_like s t (restore n x j f) m q found puts e = e
after_like s t (delete n) (Deleted v) q found puts e =
    finite.get-remove nat_list_cmp_total s.names n q ∙ ap (λ x. cond (eq_by_cmp name_cmp q n) None x) e ∙ sym (finite.get-remove nat_list_cmp_total t.names n q)
after_like s t (delete n) m q found puts e = e
after_like s t (stat n) m q found puts e = e

-- and another name has what it had
lost_elsewhere : (s : State) (n q : List ℕ) (x : Option Blob) (change : Lost → Lost) → eq_by_cmp name_cmp q n ≡ false → finite.get (with_lost s n x change).names q ≡ finite.get s.names q
lost_elsewhere s n q None change out = refl
lost_elsewhere s n q (Some b) change out =
    let kept : Blob = record b { lost = change b.lost } in
    finite.get-insert nat_list_cmp_total s.names n kept q ∙ ap (λ x. cond x (Some kept) (finite.get s.names q)) out

elsewhere : (s : State) (o : Operation) (m : Note) (q : List ℕ) → eq_by_cmp name_cmp q (name_of o) ≡ false → finite.get (after s o m).names q ≡ finite.get s.names q
elsewhere s (put n code b) m q out =
    let kept : Blob = record { version = s.puts + 1; bytes = b; code = code; lost = nothing } in
    finite.get-insert nat_list_cmp_total s.names n kept q ∙ ap (λ x. cond x (Some kept) (finite.get s.names q)) out
elsewhere s (read n start len) m q out = refl
elsewhere s (lose n j f) (LostNow v) q out = lost_elsewhere s n q (finite.get s.names n) (λ lost. set.insert lost (j, f)) out
elsewhere s (lose n j f) m q out = refl
elsewhere s (repair n j f) (Repaired v) q out = lost_elsewhere s n q (finite.get s.names n) (λ lost. set.remove lost (j, f)) out
elsewhere s (repair n j f) m q out = refl
elsewhere s (restore n x j f) (Repaired v) q out = lost_elsewhere s n q (finite.get s.names n) (λ lost. set.remove lost (j, f)) out
elsewhere s (restore n x j f) m q out = refl
elsewhere s (delete n) (Deleted v) q out = finite.get-remove nat_list_cmp_total s.names n q ∙ ap (λ x. cond x None (finite.get s.names q)) out
elsewhere s (delete n) m q out = refl
elsewhere s (stat n) m q out = refl

puts_like : (s t : State) (o : Operation) (m : Note) → s.puts ≡ t.puts → (after s o m).puts ≡ (after t o m).puts
puts_like s t o m e = puts-after s o m ∙ ap (λ x. x + cond (is_put_call (call_of o)) 1 0) e ∙ sym (puts-after t o m)

-- ---- the shards' states, and the one map
module _ (count : ℕ) where
  -- each name has in the one map what it has in its shard, and each shard has its puts
  pub record Fits (s : OneMap) (shards : ℕ → State) : Type 0 where
    pub names : (n : List ℕ) → finite.get s.names n ≡ finite.get (shards (shard_of count n)).names n
    pub puts : (k : ℕ) → s.puts k ≡ (shards k).puts

  abbrev pub next_shards : (ℕ → State) → Operation → Note → ℕ → State
  next_shards shards o m k = cond (operation_shard count o == k) (after (shards (operation_shard count o)) o m) (shards k)

  -- a name of another shard is another name
  apart : (q n : List ℕ) → shard_of count n ≢ shard_of count q → eq_by_cmp name_cmp q n ≡ false
  apart q n other = not_true (eq_by_cmp name_cmp q n) (λ t. other (ap (shard_of count) (sym (tells_apart exact_bytes q n t))))

  pub fits_next : (s : OneMap) (shards : ℕ → State) (o : Operation) (m : Note) → Fits s shards → Fits (map_after count s o m) (next_shards shards o m)
  fits_next s shards o m fits = record { names = λ q. name_by q (eqb_tells (operation_shard count o) (shard_of count q)); puts = λ k. puts_by k (eqb_tells (operation_shard count o) k) }
    where
      name_by : (q : List ℕ) → (((operation_shard count o == shard_of count q) ≡ true) × (operation_shard count o ≡ shard_of count q)) ⊎ (((operation_shard count o == shard_of count q) ≡ false) × (operation_shard count o ≢ shard_of count q))
          → finite.get (map_after count s o m).names q ≡ finite.get (next_shards shards o m (shard_of count q)).names q
      name_by q (inl (t, e)) =
          let here : finite.get s.names q ≡ finite.get (shards (operation_shard count o)).names q = fits.names q ∙ ap (λ k. finite.get (shards k).names q) (sym e) in
          after_like (state_at s (operation_shard count o)) (shards (operation_shard count o)) o m q (fits.names (name_of o)) (fits.puts (operation_shard count o)) here
          ∙ ap (λ b. finite.get (cond b (after (shards (operation_shard count o)) o m) (shards (shard_of count q))).names q) (sym t)
      name_by q (inr (t, e)) =
          elsewhere (state_at s (operation_shard count o)) o m q (apart q (name_of o) e) ∙ fits.names q
          ∙ ap (λ b. finite.get (cond b (after (shards (operation_shard count o)) o m) (shards (shard_of count q))).names q) (sym t)

      puts_by : (k : ℕ) → (((operation_shard count o == k) ≡ true) × (operation_shard count o ≡ k)) ⊎ (((operation_shard count o == k) ≡ false) × (operation_shard count o ≢ k))
          → (map_after count s o m).puts k ≡ (next_shards shards o m k).puts
      puts_by k (inl (t, e)) =
          ap (λ b. cond b (after (state_at s (operation_shard count o)) o m).puts (s.puts k)) t
          ∙ puts_like (state_at s (operation_shard count o)) (shards (operation_shard count o)) o m (fits.puts (operation_shard count o))
          ∙ ap (λ b. (cond b (after (shards (operation_shard count o)) o m) (shards k)).puts) (sym t)
      puts_by k (inr (t, e)) =
          ap (λ b. cond b (after (state_at s (operation_shard count o)) o m).puts (s.puts k)) t
          ∙ fits.puts k
          ∙ ap (λ b. (cond b (after (shards (operation_shard count o)) o m) (shards k)).puts) (sym t)

  operation_shard_below : 0 < count → (o : Operation) → operation_shard count o < count
  operation_shard_below some o = shard_below_count count (name_of o) some

  -- the calls that are left of a shard after the first call of all
  rest_of : (w : ℕ) (shards : ℕ → State) (e : Event) (es : History) (k : ℕ) → IsLegalFrom w (shards k) (part count k (e ∷ es)) → IsLegalFrom w (next_shards shards e.operation e.note k) (part count k es)
  rest_of w shards e es k legal = by (eqb_tells (operation_shard count e.operation) k)
    where
      by : (((operation_shard count e.operation == k) ≡ true) × (operation_shard count e.operation ≡ k)) ⊎ (((operation_shard count e.operation == k) ≡ false) × (operation_shard count e.operation ≢ k))
          → IsLegalFrom w (next_shards shards e.operation e.note k) (part count k es)
      by (inl (t, same)) =
          let first : IsLegalFrom w (shards k) (e ∷ part count k es) = subst (λ b. IsLegalFrom w (shards k) (cond b (e ∷ part count k es) (part count k es))) t legal in
          let moved : IsLegalFrom w (after (shards (operation_shard count e.operation)) e.operation e.note) (part count k es) =
          subst (λ j. IsLegalFrom w (after (shards j) e.operation e.note) (part count k es)) (sym same) first.1 in
          subst (λ b. IsLegalFrom w (cond b (after (shards (operation_shard count e.operation)) e.operation e.note) (shards k)) (part count k es)) (sym t) moved
      by (inr (t, other)) =
          let first : IsLegalFrom w (shards k) (part count k es) = subst (λ b. IsLegalFrom w (shards k) (cond b (e ∷ part count k es) (part count k es))) t legal in
          subst (λ b. IsLegalFrom w (cond b (after (shards (operation_shard count e.operation)) e.operation e.note) (shards k)) (part count k es)) (sym t) first

  first_of : (w : ℕ) (shards : ℕ → State) (e : Event) (es : History)
      → IsLegalFrom w (shards (operation_shard count e.operation)) (part count (operation_shard count e.operation) (e ∷ es)) → IsReply w (shards (operation_shard count e.operation)) e.operation e.note
  first_of w shards e es legal =
      let k : ℕ = operation_shard count e.operation in
      let first : IsLegalFrom w (shards k) (e ∷ part count k es) = subst (λ b. IsLegalFrom w (shards k) (cond b (e ∷ part count k es) (part count k es))) (eq-eqb k k refl) legal in
      first.0

  pub legal_one : (w : ℕ) → 0 < count → (h : History) (s : OneMap) (shards : ℕ → State) → Fits s shards → ((k : ℕ) → k < count → IsLegalFrom w (shards k) (part count k h)) → IsLegalOneMapFrom count w s h
  legal_one w some [] s shards fits legal = tt
  legal_one w some (e ∷ es) s shards fits legal =
      let k : ℕ = operation_shard count e.operation in (
        reply_like w (shards k) (state_at s k) e.operation e.note (sym (fits.names (name_of e.operation))) (sym (fits.puts k)) (first_of w shards e es (legal k (operation_shard_below some e.operation))),
        legal_one w some es (map_after count s e.operation e.note) (next_shards shards e.operation e.note) (fits_next s shards e.operation e.note fits) (λ j l. rest_of w shards e es j (legal j l)),
      )

  -- and the other way round
  back_of : (w : ℕ) (shards : ℕ → State) (e : Event) (es : History) (k : ℕ) → IsReply w (shards (operation_shard count e.operation)) e.operation e.note
      → IsLegalFrom w (next_shards shards e.operation e.note k) (part count k es) → IsLegalFrom w (shards k) (part count k (e ∷ es))
  back_of w shards e es k reply rest = by (eqb_tells (operation_shard count e.operation) k)
    where
      by : (((operation_shard count e.operation == k) ≡ true) × (operation_shard count e.operation ≡ k)) ⊎ (((operation_shard count e.operation == k) ≡ false) × (operation_shard count e.operation ≢ k))
          → IsLegalFrom w (shards k) (part count k (e ∷ es))
      by (inl (t, same)) =
          let left : IsLegalFrom w (after (shards (operation_shard count e.operation)) e.operation e.note) (part count k es) =
          subst (λ b. IsLegalFrom w (cond b (after (shards (operation_shard count e.operation)) e.operation e.note) (shards k)) (part count k es)) t rest in
          let whole : IsLegalFrom w (shards (operation_shard count e.operation)) (e ∷ part count k es) = (reply, left) in
          subst (λ b. IsLegalFrom w (shards k) (cond b (e ∷ part count k es) (part count k es))) (sym t) (subst (λ j. IsLegalFrom w (shards j) (e ∷ part count k es)) same whole)
      by (inr (t, other)) =
          let left : IsLegalFrom w (shards k) (part count k es) =
          subst (λ b. IsLegalFrom w (cond b (after (shards (operation_shard count e.operation)) e.operation e.note) (shards k)) (part count k es)) t rest in
          subst (λ b. IsLegalFrom w (shards k) (cond b (e ∷ part count k es) (part count k es))) (sym t) left

  pub legal_parts : (w : ℕ) (h : History) (s : OneMap) (shards : ℕ → State) → Fits s shards → IsLegalOneMapFrom count w s h → (k : ℕ) → IsLegalFrom w (shards k) (part count k h)
  legal_parts w [] s shards fits legal k = tt
  legal_parts w (e ∷ es) s shards fits legal k =
      let j : ℕ = operation_shard count e.operation in
      back_of w shards e es k (reply_like w (state_at s j) (shards j) e.operation e.note (fits.names (name_of e.operation)) (fits.puts j) legal.0)
      (legal_parts w es (map_after count s e.operation e.note) (next_shards shards e.operation e.note) (fits_next s shards e.operation e.note fits) legal.1 k)

  -- the state of a shard after one call more of all
  shard_next : (shards : ℕ → State) (e : Event) (es : History) (k : ℕ) → after_all (next_shards shards e.operation e.note k) (part count k es) ≡ after_all (shards k) (part count k (e ∷ es))
  shard_next shards e es k = by (eqb_tells (operation_shard count e.operation) k)
    where
      by : (((operation_shard count e.operation == k) ≡ true) × (operation_shard count e.operation ≡ k)) ⊎ (((operation_shard count e.operation == k) ≡ false) × (operation_shard count e.operation ≢ k))
          → after_all (next_shards shards e.operation e.note k) (part count k es) ≡ after_all (shards k) (part count k (e ∷ es))
      by (inl (t, same)) =
          ap (λ b. after_all (cond b (after (shards (operation_shard count e.operation)) e.operation e.note) (shards k)) (part count k es)) t
          ∙ ap (λ j. after_all (after (shards j) e.operation e.note) (part count k es)) same
          ∙ ap (λ b. after_all (shards k) (cond b (e ∷ part count k es) (part count k es))) (sym t)
      by (inr (t, other)) =
          ap (λ b. after_all (cond b (after (shards (operation_shard count e.operation)) e.operation e.note) (shards k)) (part count k es)) t
          ∙ ap (λ b. after_all (shards k) (cond b (e ∷ part count k es) (part count k es))) (sym t)

  pub fits_all : (h : History) (s : OneMap) (shards : ℕ → State) → Fits s shards → Fits (map_after_all count s h) (λ k. after_all (shards k) (part count k h))
  fits_all [] s shards fits = fits
  fits_all (e ∷ es) s shards fits =
      let rest : Fits (map_after_all count (map_after count s e.operation e.note) es) (λ k. after_all (next_shards shards e.operation e.note k) (part count k es)) =
      fits_all es (map_after count s e.operation e.note) (next_shards shards e.operation e.note) (fits_next s shards e.operation e.note fits) in record {
        names = λ n. rest.names n ∙ ap (λ (x : State). finite.get x.names n) (shard_next shards e es (shard_of count n));
        puts = λ k. rest.puts k ∙ ap (λ (x : State). x.puts) (shard_next shards e es k);
      }

  fits_empty : Fits empty_map (λ k. empty_state)
  fits_empty = record { names = λ n. refl; puts = λ k. refl }

  -- the law: an order of the shards' calls is legal for one object over one map if and only if each
  -- shard's calls are legal for a store
  pub legal_both_ways : (w : ℕ) → 0 < count → (h : History) → AreLegalParts count w h ↔ IsLegalOneMap count w h
  legal_both_ways w some h = (
    λ legal. legal_one w some h empty_map (λ k. empty_state) fits_empty legal,
    λ legal k below. legal_parts w h empty_map (λ k. empty_state) fits_empty legal k,
  )

  -- and the one map has at each name what its shard has there
  pub map_has : (h : History) (n : List ℕ) → finite.get (map_of count h).names n ≡ finite.get (state_of (part count (shard_of count n) h)).names n
  map_has h n = (fits_all h empty_map (λ k. empty_state) fits_empty).names n

  pub map_puts : (h : History) (k : ℕ) → (map_of count h).puts k ≡ (state_of (part count k h)).puts
  map_puts h k = (fits_all h empty_map (λ k. empty_state) fits_empty).puts k
