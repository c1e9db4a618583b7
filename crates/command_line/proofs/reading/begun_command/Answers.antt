use Rattle.std.proofs.Common.{rules, ◌≡◌, ◌∙◌, ap₂}
use Rattle.clap.specs.Words.{app_of, with_rule}
use Rattle.command_line.specs.Program.{bare}
use Rattle.command_line.proofs.reading.begun_command.Goals as goal

pub returns : goal.returns
returns c =
    let bare_is : app_of c.after_help.result ≡ bare = search rules in
    let one = c.in_ok-arg.ensures.shape c.script_argument.ensures.local ∙ ap₂ with_rule bare_is c.script_argument.ensures.rule in
    c.in_ok-command.ensures.shape c.number_option-width.ensures.local ∙ ap₂ with_rule one c.number_option-width.ensures.rule
