-- The exit status of a command.
use Rattle.std.specs.Prelude.{ℕ}
use Rattle.lrc_files.specs.declared.status.Status.{Status}
use Rattle.lrc_files.specs.declared.status.Status.TheVariants.{Whole, Recoverable, Unrecoverable, Failed}

abbrev pub exit_code : Status → ℕ
exit_code Whole = 0
exit_code Recoverable = 1
exit_code Unrecoverable = 2
exit_code Failed = 3
