-- The words by which records, gates and spare bytes are known.
use Rattle.std.specs.Prelude.{◌≡◌}
use Rattle.tdb_words.specs.declared.record.TheConstants.{USED, FREE, DEAD, GATE_OPEN, GATE_SHUT, PADDING}

-- They are those of the public TDB 1 format (`TDB_MAGIC`, `TDB_FREE_MAGIC`, `TDB_DEAD_MAGIC`, `TDB_RECOVERY_MAGIC`,
-- `TDB_RECOVERY_INVALID_MAGIC` and `TDB_PAD_BYTE`).
pub record AreMagics : Type 0 where
  pub used : USED ≡ 0x26011999
  pub free : FREE ≡ 0xD9FEE666
  pub dead : DEAD ≡ 0xFEE1DEAD
  pub gate_open : GATE_OPEN ≡ 0xF53BC0E7
  pub gate_shut : GATE_SHUT ≡ 0
  pub padding : PADDING ≡ 0x42
