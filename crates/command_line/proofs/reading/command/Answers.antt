use Rattle.std.proofs.Common.{◌∙◌, ap₂}
use Rattle.clap.specs.Words.{with_rule}
use Rattle.command_line.specs.Program.{program}
use Rattle.command_line.proofs.reading.command.Goals as goal

pub returns : goal.returns
unfolding program
returns c =
    let one = c.in_ok-arg.ensures.shape c.number_option-workers.ensures.local ∙ ap₂ with_rule c.in_ok-begun_command.ensures c.number_option-workers.ensures.rule in
    let two = c.in_ok-arg-2.ensures.shape c.number_option-limit.ensures.local ∙ ap₂ with_rule one c.number_option-limit.ensures.rule in
    c.in_ok-command.ensures.shape c.history_option.ensures.local ∙ ap₂ with_rule two c.history_option.ensures.rule
