-- What a check finds wrong with a file, in words.
use Rattle.std.specs.Prelude.{ℕ, List, codes}
use Rattle.tdb_words.specs.declared.what.What.{What}
use Rattle.tdb_words.specs.declared.what.What.TheVariants.{Short, Header, AreaBad, UndoBad, ChainOut, ChainLoop, BadRecord, Tailer, WrongHash, TwiceKey, FreeOut, FreeLoop, Overlap, Stray}

-- the word that is printed
abbrev pub what_text : What → List ℕ
what_text Short = codes "Short"
what_text Header = codes "Header"
what_text AreaBad = codes "AreaBad"
what_text UndoBad = codes "UndoBad"
what_text ChainOut = codes "ChainOut"
what_text ChainLoop = codes "ChainLoop"
what_text BadRecord = codes "BadRecord"
what_text Tailer = codes "Tailer"
what_text WrongHash = codes "WrongHash"
what_text TwiceKey = codes "TwiceKey"
what_text FreeOut = codes "FreeOut"
what_text FreeLoop = codes "FreeLoop"
what_text Overlap = codes "Overlap"
what_text Stray = codes "Stray"
