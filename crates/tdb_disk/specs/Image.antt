-- Images: the bytes of a file as a list, and what a write and a change of length make of them.
use Rattle.std.specs.Prelude.{ℕ, ◌+◌, ◌-◌, List, ◌++◌, length, take, drop, replicate}

-- the image with these bytes from an offset on; what lies past its end is left out
abbrev pub overlay : List ℕ → ℕ → List ℕ → List ℕ
overlay image at bytes = take (length image) (take at image ++ bytes ++ drop (at + length bytes) image)

-- the image with zeros behind it, up to a length
abbrev pub padded : List ℕ → ℕ → List ℕ
padded image to = image ++ replicate (to - length image) 0
