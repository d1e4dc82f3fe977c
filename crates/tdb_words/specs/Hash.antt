-- The two hashes of keys, as functions of the list of a key's bytes. All sums are modulo 2^32.
use Rattle.std.specs.Prelude.{ℕ, zero, suc, ◌+◌, ◌-◌, ◌*◌, ◌/◌, ◌%◌, ◌^◌, List, [], ◌∷◌, length, take, drop, fold, sum_by, bit_xor, nat_eq, if◌then◌else◌}
use Rattle.std.specs.Int.{w32, rotate_left}
use Rattle.std.specs.List.{enumerate_from}
use Rattle.tdb_words.specs.declared.word.Order.TheVariants.{Little}
use Rattle.tdb_words.specs.declared.hash.HashKind.{HashKind}
use Rattle.tdb_words.specs.declared.hash.HashKind.TheVariants.{Old, Jenkins}
use Rattle.tdb_words.specs.declared.jenkins.Mixer.{Mixer}
use Rattle.tdb_words.specs.Word.{word}

-- what a byte adds at its place, given as the pair of both: the byte shifted left by 5 times the
-- place modulo 24
abbrev pub shifted_byte : ℕ × ℕ → ℕ
shifted_byte e = e.1 * 2 ^ (5 * e.0 % 24)

-- the bytes of a key, each shifted by its place, added up
abbrev pub shifted_sum : List ℕ → ℕ
shifted_sum bytes = sum_by shifted_byte (enumerate_from 0 bytes)

-- the default hash of the format: a multiple of the key's length and its shifted bytes are added up,
-- and the sum is scrambled
unfoldable pub h_old : List ℕ → ℕ
h_old bytes = (1103515243 * (0x238F13AF * length bytes + shifted_sum bytes) + 12345) % 2 ^ 32

-- x + y and x - y in words of 32 bits, without the carry
abbrev pub word_sum : ℕ → ℕ → ℕ
word_sum x y = (x + y) % 2 ^ 32

abbrev pub word_difference : ℕ → ℕ → ℕ
word_difference x y = (x + (2 ^ 32 - y)) % 2 ^ 32

-- Jenkins' hash is `hashlittle` of his lookup3, from the initial value 0. It runs on three words, each
-- of which begins as a constant plus the key's length
abbrev pub start_words : ℕ → Mixer
start_words n = record { a = word_sum 0xDEADBEEF n; b = word_sum 0xDEADBEEF n; c = word_sum 0xDEADBEEF n }

-- twelve bytes are added to the three, as words that begin with their lowest byte. A byte past the end
-- counts as 0
abbrev pub words_plus : Mixer → List ℕ → Mixer
words_plus s piece = record {
  a = word_sum s.a (word Little piece 0);
  b = word_sum s.b (word Little piece 4);
  c = word_sum s.c (word Little piece 8);
}

-- a line of `mix`, as `a -= c; a ^= rot(c, k); c += b`. The words then change places: the next line is
-- the same with `b` as its first word, `c` as its second and `a` as its third
abbrev pub mix_line : Mixer → ℕ → Mixer
mix_line s k = record { a = s.b; b = word_sum s.c s.b; c = bit_xor (word_difference s.a s.c) (rotate_left w32 s.c k) }

-- `mix`, which follows each twelve bytes but the last
unfoldable pub mix_of : Mixer → Mixer
mix_of s = fold mix_line s (4 ∷ 6 ∷ 8 ∷ 16 ∷ 19 ∷ 4 ∷ [])

-- a line of `final`, as `c ^= b; c -= rot(b, k)`, with `c` as its first word, `a` as its second and `b`
-- as its third. The words then change places in the same way
abbrev pub final_line : Mixer → ℕ → Mixer
final_line s k = record { a = s.b; b = s.c; c = word_difference (bit_xor s.a s.c) (rotate_left w32 s.c k) }

-- `final`, whose first line is on `c`. It gives the hash
unfoldable pub final_of : Mixer → ℕ
final_of s = (fold final_line (record { a = s.c; b = s.a; c = s.b }) (14 ∷ 11 ∷ 25 ∷ 16 ∷ 4 ∷ 14 ∷ 24 ∷ [])).c

-- the first n pieces of a list that is cut into twelves
abbrev pub twelves : ℕ → List ℕ → List (List ℕ)
twelves zero bytes = []
twelves (suc n) bytes = take 12 bytes ∷ twelves n (drop 12 bytes)

-- a round for twelve bytes that aren't the last
abbrev pub round : Mixer → List ℕ → Mixer
round s piece = mix_of (words_plus s piece)

-- Jenkins' hash: a round for each twelve bytes that have more behind them, and then the last 1 to 12
-- bytes are added and `final` is done. Of no byte at all it is the third word
unfoldable pub h_jenkins : List ℕ → ℕ
h_jenkins bytes =
    let full = (length bytes - 1) / 12 in
    let s = fold round (start_words (length bytes)) (twelves full bytes) in
    if nat_eq (length bytes) 0 then s.c else final_of (words_plus s (drop (12 * full) bytes))

-- the hash that a file uses, by its kind
abbrev pub h_of : HashKind → List ℕ → ℕ
h_of Old bytes = h_old bytes
h_of Jenkins bytes = h_jenkins bytes
