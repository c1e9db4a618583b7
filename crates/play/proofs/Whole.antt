-- The run of a script, from its accounts, and its printed text.
use Rattle.std.proofs.Common.{◌≡◌, ◌∙◌, ℕ, suc, ◌+◌, ◌<◌, ◌≤◌, Bool, List, [], ◌∷◌, ◌++◌, length, map, drop, IsPermutation, refl, ap, sym, subst, arith}
use Rattle.std.specs.Prelude.{slice_index_or, codes, decimal, if◌then◌else◌}
use Rattle.std.specs.List.Sorted.{IsNonDecreasingBy}
use mathlib.Core.List.{IsPrefix}
use Rattle.gate.specs.Places.{times, once_later}
use Rattle.gate.proofs.Lists.{prefix_trans}
use Rattle.history.specs.History.{History, entry_of}
use Rattle.book.specs.Contents.{Contents}
use Rattle.book.specs.Serial.{Act, events_in, given_in, standing_of}
use Rattle.book.specs.Holds.{HoldsHistory}
use Rattle.script.specs.declared.rows.Row.{Row}
use Rattle.play.specs.Lists.{Each, Pairs}
use Rattle.play.specs.Steps.{Step, standing_after, calls_in}
use Rattle.play.specs.Runs.{round_in, IsRun}
use Rattle.transcript.specs.Lines.{AreLines}
use Rattle.transcript.specs.Lines.{entry_lines}
use Rattle.play.specs.Printed.{row_lines, printed}
use Rattle.play.specs.Accounts.{Stands, numbers_in, steps_in, HasDone, IsDone, IsPlayed}
use Rattle.transcript.specs.declared.outcome.NumberedOutcome.{NumberedOutcome}
use Rattle.play.proofs.Buckets.{each-by_key, each-weaker, twice}
use Rattle.play.proofs.Ordered.{key, follow, are_done, order_is, standing_is, calls_are}
use Rattle.play.proofs.Played.{stands_longer}
use Rattle.play.proofs.Telling.{in_order_once, lines_are, lines_known, lines_moved, numbers, only_rows, ordered, rows_are, run_of}

-- what does not fall
pub rising_pairs : {A : Type 0} (n : A → ℕ) (xs : List A) → IsNonDecreasingBy n xs → Pairs (λ x y. x ≤ y) (map n xs)
rising_pairs n [] rise = tt
rising_pairs {A} n (x ∷ xs) rise = (first xs (λ k d below. rise 0 (suc k) d (omega arith) (omega (arith, below))), rising_pairs n xs (λ i j d le below. rise (suc i) (suc j) d (omega (arith, le)) (omega (arith, below))))
  where
    first : (ys : List A) → ((k : ℕ) (d : A) → k < length ys → n x ≤ n (slice_index_or ys k d)) → Each (λ m. n x ≤ m) (map n ys)
    first [] all = tt
    first (y ∷ ys) all = (all 0 y (omega arith), first ys (λ k d below. all (suc k) d (omega (arith, below))))

-- the steps of a run, with all that is printed of them
pub record HasRun (w l workers : ℕ) (rows : List Row) (acts : List Act) (told : List NumberedOutcome) : Type 0 where
  pub steps : List Step
  pub run : IsRun w l workers rows steps
  pub lines : (sorted : List NumberedOutcome) (text : List ℕ) → IsPermutation told sorted → IsNonDecreasingBy (λ (d : NumberedOutcome). d.number) sorted → AreLines sorted text → text ≡ row_lines w steps 1 rows
  pub standing : standing_after steps ≡ standing_of acts
  pub calls : calls_in steps ≡ events_in acts

-- if each act is one of the pool's
pub has_run : (w l workers : ℕ) (rows : List Row) (before acts : List Act) (did : List ℕ) (told : List NumberedOutcome) → IsPlayed w l workers rows (length rows) before did told → IsPrefix before acts
    → ((k : ℕ) → k < length acts → times k did ≡ 1) → ((k : ℕ) → times k (numbers_in told) ≡ once_later (length rows + 1) k) → HasRun w l workers rows acts told
has_run w l workers rows before acts did told played more own once_told =
    let accounts = played.accounts in
    let stand = each-weaker (Stands w l before) (Stands w l acts) (stands_longer w l before acts more) (steps_in accounts) played.stand in
    let has : HasDone w l acts (steps_in accounts) = record { stand = stand; all = λ k below. ap (times k) (sym played.places) ∙ own k below } in
    let dones = each-weaker (IsDone w l (length rows) before (steps_in accounts)) (IsDone w l (length rows) acts (steps_in accounts))
    (λ a is. record { few = is.few; finds = λ found e. let f = is.finds found e in (prefix_trans found before acts f.0 more, f.1) }) accounts played.are_done in
    let once : (k : ℕ) → times k (numbers accounts) ≡ once_later (length rows + 1) k = λ k. ap (λ (ds : List NumberedOutcome). times k (numbers_in ds)) (sym played.dones) ∙ once_told k in
    let goes = follow w l acts (steps_in accounts) has (length acts) (omega arith) in
    let all = ordered acts accounts in
    let known = subst (Each _) (sym played.dones) (lines_known w l workers rows acts accounts has played.right dones once) in
    record {
      steps = run_of acts accounts;
      run = record {
        done = are_done w l acts all goes.0 (each-by_key key (Stands w l acts) (suc (twice (length acts))) (steps_in accounts) stand);
        order = order_is (round_in rows) (length acts) (steps_in accounts) played.order;
        rows_are = rows_are w l workers rows acts accounts has played.right dones once;
        only = only_rows w l workers rows acts accounts has played.right dones once;
      };
      lines = λ sorted text moved rise are.
          lines_are w rows (run_of acts accounts) [] rows 1 sorted text refl refl (in_order_once (length rows) told sorted moved once_told (rising_pairs (λ (d : NumberedOutcome). d.number) sorted rise))
          (lines_moved w rows (run_of acts accounts) told sorted moved known) are;
      standing = standing_is [] all ∙ ap standing_of goes.1;
      calls = calls_are [] all ∙ ap events_in goes.1;
    }

-- its text, from the book at the end
pub printed_is : (w l workers : ℕ) (rows : List Row) (history : Bool) (acts : List Act) (told sorted : List NumberedOutcome) (book : Contents) (h : History) (lines text : List ℕ) → (r : HasRun w l workers rows acts told)
    → IsPermutation told sorted → IsNonDecreasingBy (λ (d : NumberedOutcome). d.number) sorted → AreLines sorted lines → HoldsHistory book h → h ≡ events_in acts → book.base.trimmed ≡ given_in acts → book.base.trimmed + length book.entries ≡ length h
    → text ≡ lines ++ ((if history then entry_lines (book.base.trimmed + 1) book.entries else []) ++ (codes "calls " ++ (decimal (book.base.trimmed + length book.entries) ++ codes "\nlawful yes\n")))
    → text ≡ printed w history rows r.steps
printed_is w l workers rows history acts told sorted book h lines text r moved rise are tells seen given count whole =
    let first : lines ≡ row_lines w r.steps 1 rows = r.lines sorted lines moved rise are in
    let n : book.base.trimmed ≡ (standing_after r.steps).given = given ∙ ap (λ s. s.given) (sym r.standing) in
    let calls : h ≡ calls_in r.steps = seen ∙ sym r.calls in
    let entries : book.entries ≡ map entry_of (drop (standing_after r.steps).given (calls_in r.steps)) = tells.entries ∙ (λ i. map entry_of (drop (n i) (calls i))) in
    let many : book.base.trimmed + length book.entries ≡ length (calls_in r.steps) = count ∙ ap length calls in
    whole ∙ (λ i. first i ++ ((if history then entry_lines (n i + 1) (entries i) else []) ++ (codes "calls " ++ (decimal (many i) ++ codes "\nlawful yes\n"))))
