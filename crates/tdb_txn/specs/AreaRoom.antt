-- How long a new undo area is.
use Rattle.std.specs.Prelude.{ℕ, ◌+◌, ◌*◌, ◌/◌}

-- with its header, for a content of so many bytes: it has a quarter more than that, in whole blocks of 4096 bytes
abbrev pub new_area_length : ℕ → ℕ
new_area_length content = (24 + content + content / 4 + 4095) / 4096 * 4096
