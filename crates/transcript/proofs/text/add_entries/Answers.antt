use Rattle.std.proofs.Common.{rules, ◌≡◌, ◌∙◌, ℕ, ◌+◌, List, ◌++◌, take, sym, ap, arith, append_assoc}
use Rattle.std.specs.Prelude.{codes, decimal, string_bytes}
use Rattle.std.proofs.lemmas.Grind.{common_steps}
use Rattle.history.specs.Text.{entry_text}
use Rattle.transcript.specs.Lines.{entry_lines}
use Rattle.transcript.proofs.Lining.{entries-next}
use Rattle.transcript.proofs.text.add_entries.Goals as goal

pub loop-entry-preserved : goal.loop-entry-preserved
loop-entry-preserved c =
    let es = c.args.entries.now in
    let i = c.loop-entry.entry-index in
    let entry = c.entry-item.result in
    let m = c.saturating_add-number.result in
    let number : m ≡ c.args.trimmed + (i + 1) = omega (arith, c.loop-entry.invariant.number, c.requires, c.loop-entry-test.true, c.saturating_add-number.ensures) in
    let line = codes "h " ++ (decimal m ++ (codes " " ++ (entry_text entry ++ codes "\n"))) in
    let e : string_bytes c.writeln.new.self ≡ string_bytes c.loop-entry.text ++ line = first_of (search rules, grind (arith, common_steps)) in
    record {
      number = number;
      lines = e ∙ ap (λ (t : List ℕ). t ++ line) c.loop-entry.invariant.lines ∙ append_assoc (string_bytes c.args.text.now) (entry_lines (c.args.trimmed + 1) (take i es)) line
          ∙ ap (λ (t : List ℕ). string_bytes c.args.text.now ++ t) (sym (entries-next c.args.trimmed es i m entry c.loop-entry-test.true number c.entry-item.is));
    }
