use Rattle.tdb_words.proofs.hash.hash_old.Goals as goal

pub returns : goal.returns
returns c = c.end.ensures c.args.key.now (c.feed.ensures _ _ c.new-run.ensures)
