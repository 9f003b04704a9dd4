-- The buffer of what is on its way to the disk.
use Rattle.std.specs.Prelude.{ℕ}

-- how many bytes it has room for: those of three pages
abbrev pub buffer_size : ℕ
buffer_size = 12288
