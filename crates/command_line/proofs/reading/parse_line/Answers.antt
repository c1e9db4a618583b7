use Rattle.std.proofs.Common.{◌≡◌, ◌∙◌, Bor, List, ℕ, Some, codes, map, option_map, sym, ap, subst}
use Rattle.clap.specs.Words.{App, HasKind, Text, app_of, fault_of, first_of, found_of, is_simple, is_simple_and_free, matches_of, one_of, rows_of}
use Rattle.clap.proofs.WalkLemmas.{first_value-rows, one_text-rows}
use Rattle.command_line.specs.Line.{Refuses, number_of}
use Rattle.command_line.specs.Program.{program}
use Rattle.command_line.proofs.Answered.{program_is_free, program_is_simple, refuses}
use Rattle.command_line.proofs.reading.parse_line.Goals as goal

pub returns-in-Err-clause-refused : goal.returns-in-Err-clause-refused
returns-in-Err-clause-refused c =
    let words : List Text = map (λ (w : Bor (List ℕ)). w.now) c.args.words.now in
    let made : app_of c.in_ok-command.field-0 ≡ program = c.in_ok-command.ensures in
    let kinds = c.in-Err.ensures.kinds (ap is_simple_and_free made ∙ program_is_free) in
    subst (Refuses words) (sym c.refused.ensures) (refuses words c.in-Err.error (subst (λ (a : App). HasKind (fault_of a words) c.in-Err.error) made kinds))

pub returns-clause-said : goal.returns-clause-said
returns-clause-said c =
    let words : List Text = map (λ (w : Bor (List ℕ)). w.now) c.args.words.now in
    let made : app_of c.in_ok-command.field-0 ≡ program = c.in_ok-command.ensures in
    let found = found_of c.in-Ok.matches in
    let rows_are : rows_of found ≡ matches_of program words = (c.in-Ok.ensures.matches (ap is_simple made ∙ program_is_simple)).0 ∙ ap (λ (a : App). matches_of a words) made in
    let line = c.in-Some-Some-Some-Some in
    let numbers = λ (id : Text) (n : ℕ) (e : number_of id (rows_of found) ≡ Some n). sym (ap (number_of id) rows_are) ∙ e in
    record {
      taken = sym (ap (λ (a : App). fault_of a words) made) ∙ c.in-Ok.ensures.kinds (ap is_simple_and_free made ∙ program_is_free);
      found = record {
        script = sym (ap (first_of (codes "SCRIPT")) rows_are) ∙ sym (first_value-rows found (codes "SCRIPT")) ∙ sym c.get_str.ensures ∙ ap (option_map (λ (s : Bor (List ℕ)). s.now)) line.is-0 ∙ ap Some (sym c.in_ok-from_str.ensures.ok);
        width = numbers (codes "width") line.width line.ensures'.value;
        workers = numbers (codes "workers") line.workers line.ensures''.value;
        limit = numbers (codes "limit") line.limit line.ensures'''.value;
        history = λ e. c.get_flag.ensures.value (one_text-rows found (codes "history") ∙ ap (one_of (codes "history")) rows_are ∙ e);
        no_history = λ e. c.get_flag.ensures.other (one_text-rows found (codes "history") ∙ ap (one_of (codes "history")) rows_are ∙ e);
      };
    }
