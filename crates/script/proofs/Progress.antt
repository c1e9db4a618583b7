-- How far the reading of a script has come.
use Rattle.std.proofs.Common.{◌≡◌, ◌≤◌, ◌+◌, ℕ, List, [], ◌∷◌, ◌++◌, length, map, All, true, false, Option, Some, None, Result, Ok, Err, OnOk, is_ok, inl, inr, arith, refl, ap, ◌∙◌, append_assoc, length-append}
use Rattle.std.specs.Prelude.{◌==◌, IfSome, IsSome, option_map}
use Rattle.std.proofs.lemmas.Bool.Decides.{nat_tests}
use Rattle.std.proofs.lemmas.List.Elements.{All-nil, All-push}
use Rattle.std.proofs.lemmas.List.{length-map, map-append}
use Rattle.csv.specs.Reading.{ChangesHeaders, ReadRecord, Ready, default_config, names_headers, reader_config, reader_headers, reader_state, reader_trim, records_from, source_of, strip_bom, took_first}
use Rattle.csv.specs.declared.parser.State.TheVariants as st
use Rattle.csv.specs.declared.reader.Reader.{Reader}
use Rattle.csv.specs.declared.reader.Trim.TheVariants as trim
use Rattle.script.specs.declared.rows.BadScript.TheVariants as bad
use Rattle.script.specs.declared.rows.Refusal.{Refusal}
use Rattle.script.specs.declared.rows.Refusal.TheVariants as refusal_is
use Rattle.script.specs.declared.rows.Row.{Row}
use Rattle.script.specs.declared.rows.Word.{Word}
use Rattle.script.specs.Fields.{Record, row_of}
use Rattle.script.specs.Script.{AcceptedBefore, Explains, HasWorker, RefusesWith, IsTidy, at_row, refusal, script_records}
use Rattle.script.proofs.Accepted.{accepted-among, accepted-more, passed-all, refused-next, tidy-more, tidy-none}
use Rattle.script.proofs.NextRecords.{Rest, read-end, read-more}

-- these rows are those of the text's records read so far, and the reader has the others left
pub record Place {R : Type 0} (rem : R → Option (List ℕ)) (workers : ℕ) (rows : List Row) (rdr : Reader R) (text : List ℕ) : Type 0 where
  pub done : List Record
  pub are : rows ≡ map row_of done
  pub accepted : AcceptedBefore workers done (length done)
  pub left : List ℕ
  pub source : source_of rem rdr ≡ Some left
  pub rest : Rest (script_records text) done (reader_state rdr) left

-- the rows that were read, and how far the reader is if its text is known
pub record Progress {R : Type 0} (rem : R → Option (List ℕ)) (known : Option (List ℕ)) (workers : ℕ) (rows : List Row) (rdr : Reader R) : Type 0 where
  pub trim : reader_trim rdr ≡ trim.None
  pub ready : Ready rdr
  pub config : reader_config rdr ≡ default_config
  pub few : length rows ≤ 65536
  pub tidy : IsTidy rows
  pub workers_are : All (HasWorker workers) rows
  pub place : IfSome known (Place rem workers rows rdr)

below : (n : ℕ) → n ≤ 65536 → (n == 65536) ≡ false → n + 1 ≤ 65536
below n l h = grind (arith, nat_tests)

place-start : {R : Type 0} (rem : R → Option (List ℕ)) (workers : ℕ) (known : Option (List ℕ)) (a : Reader R)
    → source_of rem a ≡ option_map strip_bom known → reader_state a ≡ st.StartRecord → IfSome known (Place rem workers [] a)
place-start rem workers None a source state = tt
place-start rem workers (Some text) a source state =
    record {
      done = [];
      are = refl;
      accepted = λ i l. absurd (omega arith);
      left = strip_bom text;
      source = source;
      rest = record { turns = length (strip_bom text) + 1; enough = omega arith; between = rw state refl; are = rw state refl };
    }

-- a reader with a header row that was given
pub progress-start : {R : Type 0} (rem : R → Option (List ℕ)) (workers : ℕ) (known : Option (List ℕ)) (a b : Reader R) → ChangesHeaders a b → IsSome (reader_headers b)
    → reader_trim a ≡ trim.None → names_headers a ≡ true → reader_config a ≡ default_config → source_of rem a ≡ option_map strip_bom known → reader_state a ≡ st.StartRecord
    → Progress rem known workers [] b
progress-start {R} rem workers known a b same set t named config source state =
    let here : source_of rem b ≡ source_of rem a = ap (λ (r : Reader R). source_of rem r) same in
    let at : reader_state b ≡ reader_state a = ap (λ (r : Reader R). reader_state r) same in
    let names : names_headers b ≡ names_headers a = ap (λ (r : Reader R). names_headers r) same in
    record {
      trim = ap (λ (r : Reader R). reader_trim r) same ∙ t;
      ready = inr (inl (names ∙ named, set));
      config = ap (λ (r : Reader R). reader_config r) same ∙ config;
      few = omega arith;
      tidy = tidy-none;
      workers_are = All-nil (HasWorker workers);
      place = place-start rem workers known b (here ∙ source) (at ∙ state);
    }

place-more : {R : Type 0} (rem : R → Option (List ℕ)) (workers : ℕ) (rows : List Row) (known : Option (List ℕ)) (a b : Reader R) (r : Record) → reader_config a ≡ default_config
    → IfSome known (Place rem workers rows a) → ReadRecord rem a b true r → refusal workers rows r ≡ None → IfSome known (Place rem workers (rows ++ (row_of r ∷ [])) b)
place-more rem workers rows None a b r config p read none = tt
place-more rem workers rows (Some text) a b r config p read none =
    let more = read-more rem a b r (script_records text) p.done p.left config p.source p.rest read in
    let next : refusal workers (map row_of p.done) r ≡ None = rw (← p.are) none in
    record {
      done = p.done ++ (r ∷ []);
      are = rw (map-append row_of p.done (r ∷ [])) (ap (λ (x : List Row). x ++ (row_of r ∷ [])) p.are);
      accepted = accepted-more workers p.done r p.accepted next;
      left = more.0;
      source = more.1;
      rest = more.2;
    }

pub progress-more : {R : Type 0} (rem : R → Option (List ℕ)) (workers : ℕ) (rows : List Row) (known : Option (List ℕ)) (a b : Reader R) (r : Record) → Progress rem known workers rows a
    → ReadRecord rem a b true r → took_first b ≡ true → refusal workers rows r ≡ None → Progress rem known workers (rows ++ (row_of r ∷ [])) b
progress-more rem workers rows known a b r p read first none =
    let passed = passed-all workers rows r none in
    let few = below (length rows) p.few passed.room in
    record {
      trim = read.3 ∙ p.trim;
      ready = inl first;
      config = read.2 ∙ p.config;
      few = omega (arith, length-append rows (row_of r ∷ []));
      tidy = tidy-more workers rows r p.tidy passed;
      workers_are = All-push (HasWorker workers) rows (row_of r) p.workers_are passed.worker;
      place = place-more rem workers rows known a b r p.config p.place read none;
    }

place-refused : {R : Type 0} (rem : R → Option (List ℕ)) (workers : ℕ) (rows : List Row) (text : List ℕ) (a b : Reader R) (r : Record) (w : Word) → reader_config a ≡ default_config
    → Place rem workers rows a text → ReadRecord rem a b true r → refusal workers rows r ≡ Some w → Explains workers (script_records text) (bad.Refused (length rows + 1) w)
place-refused rem workers rows text a b r w config p read refused =
    let more = read-more rem a b r (script_records text) p.done p.left config p.source p.rest read in
    let tail = records_from default_config more.2.turns (reader_state b) more.0 in
    let all : script_records text ≡ p.done ++ (r ∷ tail) = more.2.are ∙ append_assoc p.done (r ∷ []) tail in
    let next : refusal workers (map row_of p.done) r ≡ Some w = rw (← p.are) refused in
    let places : length rows ≡ length p.done = ap length p.are ∙ length-map p.done row_of in
    rw all (length p.done, omega arith, omega (arith, length-append p.done (r ∷ tail)), accepted-among workers p.done (r ∷ tail) p.accepted, refused-next workers p.done r tail ∙ next)

pub progress-refused : {R : Type 0} (rem : R → Option (List ℕ)) (workers : ℕ) (rows : List Row) (known : Option (List ℕ)) (a b : Reader R) (r : Record) (e : Refusal)
    → Progress rem known workers rows a → ReadRecord rem a b true r → RefusesWith e (refusal workers rows r) → IfSome known (λ text. Explains workers (script_records text) (at_row e (length rows + 1)))
progress-refused rem workers rows None a b r e p read refused = tt
progress-refused rem workers rows (Some text) a b r (refusal_is.Refused w) p read refused = place-refused rem workers rows text a b r w p.config p.place read refused
progress-refused rem workers rows (Some text) a b r refusal_is.NoMemory p read refused = tt

pub progress-end : {R : Type 0} (rem : R → Option (List ℕ)) (workers : ℕ) (rows : List Row) (known : Option (List ℕ)) (a b : Reader R) (r : Record) → Progress rem known workers rows a
    → ReadRecord rem a b false r
    → IfSome known (λ text. AcceptedBefore workers (script_records text) (length (script_records text)) × (rows ≡ map row_of (script_records text)))
progress-end rem workers rows None a b r p read = tt
progress-end rem workers rows (Some text) a b r p read =
    let place = p.place in
    let all = read-end rem a b r (script_records text) place.done place.left p.config place.source place.rest read in
    rw all (place.accepted, place.are)

-- what holds of every value holds of the one in an option
pub of_every : {A : Type 0} (P : A → Type 0) (o : Option A) → ((x : A) → P x) → IfSome o P
of_every P None h = tt
of_every P (Some x) h = h x

pub of_each : {A : Type 0} (P Q : A → Type 0) (o : Option A) → ((x : A) → P x → Q x) → IfSome o P → IfSome o Q
of_each P Q None h p = tt
of_each P Q (Some x) h p = h x p

-- a property of a good result holds of a result that is good
pub given : {T E P : Type 0} (r : Result T E) → is_ok r ≡ true → OnOk r P → P
given (Ok x) ok p = p
given (Err e) ok p = cc ok
