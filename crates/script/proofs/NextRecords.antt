-- The records of a text, one after the other, with enough iterations for all of them.
use Rattle.std.proofs.Common.{◌≡◌, ◌≤◌, ◌<◌, ℕ, zero, suc, List, [], ◌∷◌, ◌++◌, length, true, false, Bool, Option, Some, None, inl, inr, arith, refl, sym, subst, ◌∙◌, append_assoc}
use Rattle.std.specs.Prelude.{if◌then◌else◌, ◌&&◌, ◌==◌}
use Rattle.std.proofs.lemmas.Bool.{cases_Bool}
use Rattle.std.proofs.lemmas.List.{append-nil}
use Rattle.csv.specs.Machine.{Read, after_end, ends_at_end, ends_with, field_after, fields_after, in_field, is_byte, is_end, next_record, start_field, start_record, step}
use Rattle.csv.specs.Reading.{NextIs, ReadRecord, ReadsNext, default_config, pending_of, records_from, source_of}
use Rattle.csv.specs.declared.parser.Action.{Action}
use Rattle.csv.specs.declared.parser.Action.TheVariants as act
use Rattle.csv.specs.declared.parser.Config.{Config}
use Rattle.csv.specs.declared.parser.State.{State}
use Rattle.csv.specs.declared.parser.State.TheVariants as st
use Rattle.csv.specs.declared.parser.Terminator.{Terminator}
use Rattle.csv.specs.declared.parser.Terminator.TheVariants as term
use Rattle.csv.specs.declared.reader.Reader.{Reader}
use Rattle.csv.proofs.ReadFacts.{rows-end}
use Rattle.script.specs.Fields.{Record}

-- after the end of a record the machine is between two records
between : (t : Terminator) (c : ℕ) → ends_at_end (after_end t c) ≡ false
between term.CRLF c = elim (cases_Bool (c == 13)) [ inl e ↦ rw e refl | inr e ↦ rw e refl ]
between (term.Any t) c = refl

-- an action that ends a record leaves the machine between two records
record Between (p : State × Action) : Type 0 where
  ends : is_end p.1 ≡ true → ends_at_end p.0 ≡ false

choose : (b : Bool) (p q : State × Action) → Between p → Between q → Between (if b then p else q)
choose true p q x y = x
choose false p q x y = y

-- an action that ends no record
goes-on : (s : State) (a : Action) → is_end a ≡ false → Between (s, a)
goes-on s a e = record { ends = λ h. cc }

field-between : (cfg : Config) (c : ℕ) → Between (in_field cfg c)
field-between cfg c =
    choose (c == cfg.delimiter) (st.StartField, act.EndField) (if ends_with cfg.terminator c then (after_end cfg.terminator c, act.EndRecord) else (st.InField, act.Copy))
    (goes-on st.StartField act.EndField refl)
    (choose (ends_with cfg.terminator c) (after_end cfg.terminator c, act.EndRecord) (st.InField, act.Copy) (record { ends = λ h. between cfg.terminator c }) (goes-on st.InField act.Copy refl))

start-field-between : (cfg : Config) (c : ℕ) → Between (start_field cfg c)
start-field-between cfg c = choose (cfg.quoting && (c == cfg.quote)) (st.InQuoted, act.Skip) (in_field cfg c) (goes-on st.InQuoted act.Skip refl) (field-between cfg c)

start-record-between : (cfg : Config) (c : ℕ) → Between (start_record cfg c)
start-record-between cfg c =
    choose (ends_with cfg.terminator c) (st.StartRecord, act.Skip) (if is_byte cfg.comment c then (st.InComment, act.Skip) else start_field cfg c)
    (goes-on st.StartRecord act.Skip refl)
    (choose (is_byte cfg.comment c) (st.InComment, act.Skip) (start_field cfg c) (goes-on st.InComment act.Skip refl) (start-field-between cfg c))

step-between : (cfg : Config) (s : State) (c : ℕ) → Between (step cfg s c)
step-between cfg st.StartRecord c = start-record-between cfg c
step-between cfg st.StartField c = start-field-between cfg c
step-between cfg st.InField c = field-between cfg c
step-between cfg st.InQuoted c =
    choose (cfg.quoting && (c == cfg.quote)) (st.AfterQuote, act.Skip) (if cfg.quoting && is_byte cfg.escape c then (st.InEscape, act.Skip) else (st.InQuoted, act.Copy))
    (goes-on st.AfterQuote act.Skip refl)
    (choose (cfg.quoting && is_byte cfg.escape c) (st.InEscape, act.Skip) (st.InQuoted, act.Copy) (goes-on st.InEscape act.Skip refl) (goes-on st.InQuoted act.Copy refl))
step-between cfg st.InEscape c = goes-on st.InQuoted act.Copy refl
step-between cfg st.AfterQuote c =
    choose (cfg.quoting && cfg.double_quote && (c == cfg.quote)) (st.InQuoted, act.Copy) (in_field cfg c) (goes-on st.InQuoted act.Copy refl) (field-between cfg c)
step-between cfg st.InComment c =
    choose (c == 10) (st.StartRecord, act.Skip) (st.InComment, act.Skip) (goes-on st.StartRecord act.Skip refl) (goes-on st.InComment act.Skip refl)
step-between cfg st.AfterCr c = choose (c == 10) (st.StartRecord, act.Skip) (start_record cfg c) (goes-on st.StartRecord act.Skip refl) (start-record-between cfg c)

-- the rest after a record: the machine is between two records, and the text is shorter if it was so
-- before
pub record Left (s : State) (xs : List ℕ) (p : Read) : Type 0 where
  pub done : ends_at_end p.1 ≡ false
  pub within : length p.2 ≤ length xs
  pub shorter : ends_at_end s ≡ false → length p.2 < length xs

left-at-end : (b : Bool) (s : State) (f : List (List ℕ)) (p : Read) → ends_at_end s ≡ b → (if b then Some (f, st.StartRecord, []) else None) ≡ Some p → Left s [] p
left-at-end true s f p e h =
    let is : (f, st.StartRecord, []) ≡ p = cc in
    let P : Read → Type 0 = λ q. Left s [] q in
    subst P is (record { done = refl; within = omega arith; shorter = λ n. cc })
left-at-end false s f p e h = cc

left-after : (b : Bool) (s t : State) (f : List (List ℕ)) (c : ℕ) (rest : List ℕ) (p : Read) (more : Option Read)
    → (b ≡ true → ends_at_end t ≡ false) → (more ≡ Some p → Left s (c ∷ rest) p)
    → (if b then Some (f, t, rest) else more) ≡ Some p → Left s (c ∷ rest) p
left-after true s t f c rest p more ends later h =
    let is : (f, t, rest) ≡ p = cc in
    let P : Read → Type 0 = λ q. Left s (c ∷ rest) q in
    subst P is (record { done = ends refl; within = omega arith; shorter = λ n. omega arith })
left-after false s t f c rest p more ends later h = later h

pub next-left : (cfg : Config) (s : State) (fields : List (List ℕ)) (field xs : List ℕ) (p : Read) → next_record cfg s fields field xs ≡ Some p → Left s xs p
unfolding next_record
next-left cfg s fields field [] p h = left-at-end (ends_at_end s) s (fields ++ (field ∷ [])) p refl h
next-left cfg s fields field (c ∷ rest) p h =
    left-after (is_end (step cfg s c).1) s (step cfg s c).0 (fields_after (step cfg s c).1 fields field) c rest p
    (next_record cfg (step cfg s c).0 (fields_after (step cfg s c).1 fields field) (field_after (step cfg s c).1 c field) rest)
    (step-between cfg s c).ends
    (λ e.
    let left = next-left cfg (step cfg s c).0 (fields_after (step cfg s c).1 fields field) (field_after (step cfg s c).1 c field) rest p e in
    record { done = left.done; within = omega (arith, left.within); shorter = λ n. omega (arith, left.within) })
    h

-- the records of the rest, with one iteration more than there are bytes
pub record Rest (all : List Record) (done : List Record) (s : State) (y : List ℕ) : Type 0 where
  pub turns : ℕ
  pub enough : length y < turns
  pub between : ends_at_end s ≡ false
  pub are : all ≡ done ++ records_from default_config turns s y

-- the iterations end only if no byte can remain
first-turn : (n : ℕ) (s : State) (y : List ℕ) (p : Read) → length y < n → next_record default_config s [] [] y ≡ Some p
    → (m : ℕ) × (n ≡ suc m) × (records_from default_config n s y ≡ p.0 ∷ records_from default_config m p.1 p.2)
unfolding records_from
first-turn zero s y p l e = absurd (omega arith)
first-turn (suc m) s y p l e = (m, refl, rw e refl)

no-turn : (n : ℕ) (s : State) (y : List ℕ) → next_record default_config s [] [] y ≡ None → records_from default_config n s y ≡ []
unfolding records_from
no-turn zero s y e = refl
no-turn (suc m) s y e = rw e refl

-- one more record
rest-more : (all done : List Record) (s : State) (y : List ℕ) (p : Read) → Rest all done s y → next_record default_config s [] [] y ≡ Some p → Rest all (done ++ (p.0 ∷ [])) p.1 p.2
rest-more all done s y p r e =
    let left = next-left default_config s [] [] y p e in
    let (m, n, first) = first-turn r.turns s y p r.enough e in
    let short = left.shorter r.between in
    record {
      turns = m;
      enough = omega (arith, r.enough);
      between = left.done;
      are = r.are ∙ rw first (sym (append_assoc done (p.0 ∷ []) (records_from default_config m p.1 p.2)));
    }

rest-end : (all done : List Record) (s : State) (y : List ℕ) → Rest all done s y → next_record default_config s [] [] y ≡ None → all ≡ done
rest-end all done s y r e = r.are ∙ rw (no-turn r.turns s y e) (append-nil done)

rest-same : (all done : List Record) (f : Record) (s t : State) (z : List ℕ) (p : Read) → f ≡ p.0 → t ≡ p.1 → z ≡ p.2 → Rest all (done ++ (p.0 ∷ [])) p.1 p.2 → Rest all (done ++ (f ∷ [])) t z
rest-same all done f s t z p a b c r = rw (a, b, c) r

rest-found : (all done : List Record) (s : State) (y : List ℕ) (o : Option Read) (f : Record) (t : State) (z : List ℕ) → next_record default_config s [] [] y ≡ o
    → NextIs o true f t z → Rest all done s y → Rest all (done ++ (f ∷ [])) t z
rest-found all done s y None f t z e n r = cc n
rest-found all done s y (Some p) f t z e n r = rest-same all done f s t z p n.1 n.2 n.3 (rest-more all done s y p r e)

rest-go : (all done : List Record) (s t : State) (y : List ℕ) (f : Record) (k : Option (List ℕ)) → ReadsNext default_config s (Some y) k true f t → Rest all done s y
    → (z : List ℕ) × (k ≡ Some z) × Rest all (done ++ (f ∷ [])) t z
rest-go all done s t y f None n r = absurd n
rest-go all done s t y f (Some z) n r = (z, refl, rest-found all done s y (next_record default_config s [] [] y) f t z refl n r)

-- what a read of a record leaves
pub read-more : {R : Type 0} (rem : R → Option (List ℕ)) (a b : Reader R) (f : Record) (all done : List Record) (y : List ℕ)
    → a.config ≡ default_config → source_of rem a ≡ Some y → Rest all done a.state y → ReadRecord rem a b true f
    → (z : List ℕ) × (source_of rem b ≡ Some z) × Rest all (done ++ (f ∷ [])) b.state z
read-more rem a b f all done y config source r read =
    let g = rest-go all done a.state b.state y f (pending_of (rem b.rdr) b) (rw (config, source) at read.0) r in
    (g.0, rw read.1 g.1, g.2)

-- a read that finds no record has read them all
pub read-end : {R : Type 0} (rem : R → Option (List ℕ)) (a b : Reader R) (f : Record) (all done : List Record) (y : List ℕ)
    → a.config ≡ default_config → source_of rem a ≡ Some y → Rest all done a.state y → ReadRecord rem a b false f → all ≡ done
read-end rem a b f all done y config source r read = rest-end all done a.state y r (rows-end rem a b f default_config y config source read)
