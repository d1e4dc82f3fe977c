-- Pages by number, and what they make of the bytes of a file.
use Rattle.std.specs.Prelude.{◌≡◌, ◌≢◌, ℕ, ◌+◌, ◌/◌, ◌%◌, ◌<◌, ◌≤◌, ◌⊎◌, ◌==◌, if◌then◌else◌, List, [], ◌∷◌, Option, Some, None, IsSome, option_map, get_or, length, slice_index, zero, suc, refl}
use Rattle.std.proofs.Common.{ap}
use Rattle.tdb_disk.specs.Image.{overlay}
use Rattle.tdb_txn.specs.declared.page.Page.{Page}

-- how many bytes a page has
abbrev pub page_size : ℕ
page_size = 4096

-- the bytes of the first page with a number
abbrev pub page_at : List Page → ℕ → Option (List ℕ)
page_at [] number = None
page_at (page ∷ pages) number = if page.number == number then Some page.bytes.items else page_at pages number

-- the numbers rise
abbrev pub Rising : List Page → Type 0
Rising pages = (i j : ℕ) (d : Page) → i < j → j < length pages → (get_or pages i d).number < (get_or pages j d).number

-- the byte at a place of a page, or another one where the page isn't there
abbrev pub byte_in : Option (List ℕ) → ℕ → ℕ → ℕ
byte_in None place other = other
byte_in (Some page) place other = slice_index page place

-- the byte at an offset: that of its page, or where there is none that of the file, which is 0 from the file's length
-- on
abbrev pub byte_over : List Page → List ℕ → ℕ → ℕ
byte_over pages base i = byte_in (page_at pages (i / page_size)) (i % page_size) (slice_index base i)

-- the first values of a function as a list
unfoldable pub filled : (ℕ → ℕ) → ℕ → List ℕ
filled byte zero = []
filled byte (suc n) = byte 0 ∷ filled (λ i. byte (suc i)) n

-- there are as many as asked for
pub length_filled : (byte : ℕ → ℕ) (n : ℕ) → length (filled byte n) ≡ n
unfolding filled
length_filled byte zero = refl
length_filled byte (suc n) = ap suc (length_filled (λ i. byte (suc i)) n)

-- a file of this length with the pages over it
abbrev pub contents : List Page → List ℕ → ℕ → List ℕ
contents pages base size = filled (byte_over pages base) size

-- no page has another byte than 0 from a length on
abbrev pub ZeroFrom : ℕ → List Page → Type 0
ZeroFrom size pages = (i : ℕ) → size ≤ i → byte_in (page_at pages (i / page_size)) (i % page_size) 0 ≡ 0

-- bytes were written into one page, and every other page is as it was
pub record PutIn (number within : ℕ) (piece : List ℕ) (old new : List Page) : Type 0 where
  pub here : page_at new number ≡ option_map (λ page. overlay page within piece) (page_at old number)
  pub others : (other : ℕ) → other ≢ number → page_at new other ≡ page_at old other
  pub count : length new ≡ length old

-- a page was added that wasn't there, and every other page is as it was
pub record Added (number : ℕ) (page : List ℕ) (old new : List Page) : Type 0 where
  pub before : page_at old number ≡ None
  pub here : page_at new number ≡ Some page
  pub others : (other : ℕ) → other ≢ number → page_at new other ≡ page_at old other
  pub count : length new ≡ length old + 1

-- a page is there
abbrev pub HasPage : List Page → ℕ → Type 0
HasPage pages number = IsSome (page_at pages number)

-- some byte of a range lies in a page
pub record Meets (off n number : ℕ) : Type 0 where
  pub place : ℕ
  pub from : off ≤ place
  pub to : place < off + n
  pub inside : place / page_size ≡ number

-- just the pages that a range meets were added, where they weren't there
pub record AddsMet (off n : ℕ) (old new : List Page) : Type 0 where
  pub kept : (number : ℕ) → HasPage old number → HasPage new number
  pub met : (number : ℕ) → Meets off n number → HasPage new number
  pub only : (number : ℕ) → HasPage new number → HasPage old number ⊎ Meets off n number
