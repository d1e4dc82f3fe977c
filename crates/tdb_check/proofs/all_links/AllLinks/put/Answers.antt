-- A record of a chain, or of the free list.
use Rattle.std.proofs.Common.{◌≡◌, ℕ, List, [], ◌∷◌, ◌++◌, OnOk, sym, subst}
use Rattle.tdb_words.specs.Record.{rec_at}
use Rattle.tdb_space.specs.Form.{Form}
use Rattle.tdb_check.specs.Seen.{kind_of}
use Rattle.tdb_check.specs.InSequence.{StandsIn}
use Rattle.tdb_check.specs.Links.{PutDown}
use Rattle.tdb_check.proofs.all_links.AllLinks.put.Goals as goal

pub returns-in-Chain-clause-put : goal.returns-in-Chain-clause-put
returns-in-Chain-clause-put c =
    subst (λ z. OnOk c.put_chained.result ((f : Form) (img xs : List ℕ) → PutDown f img xs c.args.self.now → StandsIn f (kind_of z) img c.args.at → c.args.header.now ≡ rec_at f.order img c.args.at → PutDown f img (xs ++ c.args.at ∷ []) c.put_chained.new.self))
    (sym c.in-Chain.is) c.put_chained.ensures.put

pub returns-in-Free-clause-put : goal.returns-in-Free-clause-put
returns-in-Free-clause-put c =
    subst (λ z. OnOk c.put_free.result ((f : Form) (img xs : List ℕ) → PutDown f img xs c.args.self.now → StandsIn f (kind_of z) img c.args.at → c.args.header.now ≡ rec_at f.order img c.args.at → PutDown f img (xs ++ c.args.at ∷ []) c.put_free.new.self))
    (sym c.in-Free.is) c.put_free.ensures.put
