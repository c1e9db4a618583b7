use Rattle.std.proofs.Common.{rules, ◌≡◌, ◌++◌, sym, subst, arith}
use Rattle.std.specs.Prelude.{codes, decimal, string_bytes}
use Rattle.std.proofs.lemmas.Grind.{common_steps}
use Rattle.transcript.specs.Lines.{AreLines, line_text}
use Rattle.transcript.proofs.Lining.{lines-more}
use Rattle.transcript.proofs.text.row_lines.Goals as goal

pub loop-one-preserved : goal.loop-one-preserved
loop-one-preserved c =
    let d = c.in-Some.one in
    let e : string_bytes c.writeln.new.self ≡ string_bytes c.loop-one.text ++ (decimal d.number ++ (codes " " ++ (line_text c.in_ok-line.line ++ codes "\n"))) =
    first_of (search rules, grind (arith, common_steps)) in
    record {
      lines = subst (AreLines _) (sym e) (lines-more c.loop-one.yielded d (string_bytes c.loop-one.text) c.in_ok-line.line c.loop-one.invariant.lines c.in_ok-line.ensures.ok);
      all = grind (arith, common_steps);
    }

pub loop-one-preserved-in_ok-writeln : goal.loop-one-preserved-in_ok-writeln
loop-one-preserved-in_ok-writeln c =
    let d = c.in-Some.one in
    let e : string_bytes c.writeln.new.self ≡ string_bytes c.loop-one.text ++ (decimal d.number ++ (codes " " ++ (line_text c.in_ok-line.line ++ codes "\n"))) =
    first_of (search rules, grind (arith, common_steps)) in
    record {
      lines = subst (AreLines _) (sym e) (lines-more c.loop-one.yielded d (string_bytes c.loop-one.text) c.in_ok-line.line c.loop-one.invariant.lines c.in_ok-line.ensures.ok);
      all = grind (arith, common_steps);
    }
