-- The parts of a range of bytes that lie in one page each.
use Rattle.std.specs.Prelude.{◌≡◌, ℕ, ◌+◌, ◌*◌, ◌<◌, ◌≤◌, ◌⊎◌}
use Rattle.tdb_txn.specs.Pages.{page_size}
use Rattle.tdb_txn.specs.declared.part.Part.{Part}

-- the part begins behind the first `done` bytes of the range, and ends with the range or with its page
pub record IsPart (off done len : ℕ) (part : Part) : Type 0 where
  pub start : part.number * page_size + part.within ≡ off + done
  pub more : done < part.end
  pub inside : part.end ≤ len
  pub one_page : part.within + part.end ≤ page_size + done
  pub whole : (part.end ≡ len) ⊎ (part.within + part.end ≡ page_size + done)
