-- The program's command, as `clap` reads it.
use Rattle.std.specs.Prelude.{ℕ, Some, true, codes, [], ◌∷◌}
use Rattle.clap.specs.Words.{App, Rule, Text, new_app, new_rule, with_rule}
use Rattle.clap.specs.declared.builder.action.ArgAction.TheVariants.{SetTrue}
use Rattle.clap.specs.declared.builder.value_parser.ValueParser.TheVariants.{Unsigned}

-- the script, which is an argument and is required
abbrev pub script_rule : Rule
script_rule = record (new_rule (codes "SCRIPT")) { required = true }

-- an option with a number from 1 to the most, and the number without it
abbrev pub number_rule : Text → ℕ → Text → Rule
number_rule id most default = record (new_rule id) { long = Some id; value_names = 1; defaults = default ∷ []; parser = Some (Unsigned 1 most) }

-- an option with no number
abbrev pub history_rule : Rule
history_rule = record (new_rule (codes "history")) { long = Some (codes "history"); action = Some SetTrue }

-- the command before its arguments: its words don't begin with the program's name, and it has a version
abbrev pub bare : App
bare = let new = new_app (codes "lrcstore") in record new { top = record new.top { no_binary_name = true; has_version = true } }

-- `SCRIPT [--width N] [--workers K] [--limit J] [--history]`
unfoldable pub program : App
program =
    with_rule (with_rule (with_rule (with_rule (with_rule bare
    script_rule)
    (number_rule (codes "width") 65536 (codes "1")))
    (number_rule (codes "workers") 16 (codes "1")))
    (number_rule (codes "limit") 1048576 (codes "4096")))
    history_rule
