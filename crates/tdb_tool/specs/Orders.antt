-- What the words of a line order.
use Rattle.std.specs.Prelude.{◌≡◌, ℕ, Bool, true, false, List, [], ◌∷◌, codes, Option, None, Some}
use Rattle.std.specs.Str.{bytes_eq}
use Rattle.tdb_dump.specs.Word.{IsWord}
use Rattle.tdb_script.specs.Rows.{row_of}
use Rattle.tdb_tool.specs.declared.order.Order.{Order}
use Rattle.tdb_cmdline.specs.Hex.{hex_bytes}
use Rattle.tdb_tool.specs.Rows.{bare_orders, key_orders, value_orders}

-- the name behind which words are pairs of hexadecimal digits
abbrev pub storehex : List ℕ
storehex = codes "storehex"

-- a word stands for these bytes: as pairs of hexadecimal digits, or as a word of a command
abbrev pub IsSpelled : Bool → List ℕ → List ℕ → Type 0
IsSpelled true word bytes = hex_bytes word ≡ Some bytes
IsSpelled false word bytes = IsWord word bytes

-- The words are an order: its name, and a word for its key and one for its value, where it has them.
abbrev pub IsOrder : List (List ℕ) → Order → Type 0
IsOrder [] order = ⊥
IsOrder (name ∷ []) order = row_of bare_orders name ≡ Some order
IsOrder (name ∷ word ∷ []) order = (key : List ℕ) × IsWord word key × (row_of (key_orders key) name ≡ Some order)
IsOrder (name ∷ word ∷ more ∷ []) order =
    (key : List ℕ) × (value : List ℕ) × IsSpelled (bytes_eq name storehex) word key × IsSpelled (bytes_eq name storehex) more value
    × (row_of (value_orders key value) name ≡ Some order)
IsOrder (name ∷ word ∷ more ∷ other ∷ words) order = ⊥

-- they are none
abbrev pub IsNoOrder : List (List ℕ) → Type 0
IsNoOrder words = (order : Order) → IsOrder words order → ⊥

-- words are read as an order, or as none
abbrev pub ReadsAs : List (List ℕ) → Option Order → Type 0
ReadsAs words None = IsNoOrder words
ReadsAs words (Some order) = IsOrder words order

-- a word is read as the bytes that it stands for, or as none where it stands for no bytes
abbrev pub BytesRead : Bool → List ℕ → Option (List ℕ) → Type 0
BytesRead hex word None = (bytes : List ℕ) → IsSpelled hex word bytes → ⊥
BytesRead hex word (Some bytes) = IsSpelled hex word bytes
