-- No log failed where no file was opened.
use Rattle.std.proofs.Common.{◌≡◌, ℕ, List, sym, ◌∙◌, inl, inr}
use Rattle.tdb_disk.specs.declared.files.TakeRefusal.{TakeRefusal}
use Rattle.tdb_disk.specs.declared.files.TakeRefusal.TheVariants as Take
use Rattle.tdb_answer.specs.declared.commands.create.Creation as Making
use Rattle.tdb_answer.specs.declared.ending.Ending.{Ending}
use Rattle.tdb_answer.specs.declared.ending.Ending.TheVariants as E
use Rattle.tdb_answer.specs.declared.ending.Reply.TheVariants.{Done}
use Rattle.tdb_answer.specs.Ending.{Untaken, MadeSo}
use Rattle.tdb_open.specs.declared.halt.Refusal.TheVariants.{TooLong}

-- a file wasn't taken
pub untaken_unlogged : (name : List ℕ) (refusal : TakeRefusal) (e : Ending) → Untaken name refusal e → e ≡ E.LogFault → ⊥
untaken_unlogged name Take.Missing e (inl is) logged = let both : E.Missing name ≡ E.LogFault = sym is ∙ logged in cc
untaken_unlogged name Take.Missing e (inr is) logged = let both : E.NoMemory ≡ E.LogFault = sym is ∙ logged in cc
untaken_unlogged name Take.There e (inl is) logged = let both : E.There name ≡ E.LogFault = sym is ∙ logged in cc
untaken_unlogged name Take.There e (inr is) logged = let both : E.NoMemory ≡ E.LogFault = sym is ∙ logged in cc
untaken_unlogged name Take.Failed e is logged = let both : E.DeviceFault ≡ E.LogFault = sym is ∙ logged in cc
untaken_unlogged name Take.Memory e is logged = let both : E.NoMemory ≡ E.LogFault = sym is ∙ logged in cc

-- a file was to be made
pub made_unlogged : (name : List ℕ) (creation : Making.Creation) (e : Ending) → MadeSo name creation e → e ≡ E.LogFault → ⊥
made_unlogged name Making.TheVariants.Made e is logged = let both : E.Replied Done ≡ E.LogFault = sym is ∙ logged in cc
made_unlogged name Making.TheVariants.There e (inl is) logged = let both : E.There name ≡ E.LogFault = sym is ∙ logged in cc
made_unlogged name Making.TheVariants.There e (inr is) logged = let both : E.NoMemory ≡ E.LogFault = sym is ∙ logged in cc
made_unlogged name (Making.TheVariants.TooLong len) e is logged = let both : E.Refused (TooLong len) ≡ E.LogFault = sym is ∙ logged in cc
made_unlogged name Making.TheVariants.Device e is logged = let both : E.DeviceFault ≡ E.LogFault = sym is ∙ logged in cc
made_unlogged name Making.TheVariants.Memory e is logged = let both : E.NoMemory ≡ E.LogFault = sym is ∙ logged in cc
