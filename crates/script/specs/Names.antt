-- Names of blobs, as a test.
use Rattle.std.specs.Prelude.{ℕ, List, Bool, ◌&&◌, length, nat_le}
use Rattle.std.specs.List.{list_all}
use Rattle.history.specs.Names.{is_name_byte}

-- whether bytes are a name
unfoldable pub is_name : List ℕ → Bool
is_name text = nat_le 1 (length text) && nat_le (length text) 32 && list_all is_name_byte text
