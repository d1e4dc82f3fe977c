-- Each text is that of the image whose header states the view's form.
use Rattle.std.proofs.Common.{◌≡◌, ◌++◌, [], subst}
use Rattle.tdb_backup.specs.Dump.{WroteFront, listing_of}
use Rattle.std.proofs.lemmas.Result.{on_err_weaker, on_ok_weaker}
use Rattle.tdb_free.proofs.Results.{on_err}
use Rattle.tdb_rewrite.specs.Text.{chains_text, free_text}
use Rattle.tdb_space.specs.Accepted.{AcceptWith}
use Rattle.tdb_answer.proofs.commands.print.write_printout.Goals as goal

pub returns-in_ok-write_pairs-in-Pairs-clause-written : goal.returns-in_ok-write_pairs-in-Pairs-clause-written
returns-in_ok-write_pairs-in-Pairs-clause-written g c = rw c.in-Pairs.is
    (λ told heard A stated counted.
    subst (λ f. g.K.Sink.written c.write_pairs.new.out ≡ g.K.Sink.written c.args.output.now ++ listing_of c.in-Pairs.listing f (g.S.Space.image c.args.s.now)) (stated A.header)
    (c.in_ok-write_pairs-in-Pairs.ensures.written told heard [] A))

pub returns-in_err-write_pairs-in-Pairs-clause-front : goal.returns-in_err-write_pairs-in-Pairs-clause-front
returns-in_err-write_pairs-in-Pairs-clause-front g c = rw c.in-Pairs.is
    (on_err c.from_residual.result (λ told heard A stated counted.
    subst (λ f. WroteFront (g.K.Sink.written c.args.output.now) (listing_of c.in-Pairs.listing f (g.S.Space.image c.args.s.now)) (g.K.Sink.written c.write_pairs.new.out)) (stated A.header)
    (c.in_err-write_pairs-in-Pairs.ensures.front told heard [] A)))

pub returns-in-Summary-clause-written : goal.returns-in-Summary-clause-written
returns-in-Summary-clause-written g c = rw c.in-Summary.is
    (on_ok_weaker c.write_summary.result (λ wrote told heard A stated counted.
    wrote told heard stated (subst (λ f. AcceptWith f (g.S.Space.image c.args.s.now) []) (stated A.header) A) counted) c.write_summary.ensures.written)

pub returns-in-Summary-clause-front : goal.returns-in-Summary-clause-front
returns-in-Summary-clause-front g c = rw c.in-Summary.is
    (on_err_weaker c.write_summary.result (λ front told heard A stated counted.
    front told heard stated (subst (λ f. AcceptWith f (g.S.Space.image c.args.s.now) []) (stated A.header) A) counted) c.write_summary.ensures.front)

pub returns-in-Chains-clause-written : goal.returns-in-Chains-clause-written
returns-in-Chains-clause-written g c = rw c.in-Chains.is
    (on_ok_weaker c.write_chains.result (λ wrote told heard A stated counted.
    subst (λ f. g.K.Sink.written c.write_chains.new.out ≡ g.K.Sink.written c.args.output.now ++ chains_text f (g.S.Space.image c.args.s.now)) (stated A.header) (wrote told heard [] A))
    c.write_chains.ensures.written)

pub returns-in-Chains-clause-front : goal.returns-in-Chains-clause-front
returns-in-Chains-clause-front g c = rw c.in-Chains.is
    (on_err_weaker c.write_chains.result (λ front told heard A stated counted.
    subst (λ f. WroteFront (g.K.Sink.written c.args.output.now) (chains_text f (g.S.Space.image c.args.s.now)) (g.K.Sink.written c.write_chains.new.out)) (stated A.header) (front told heard [] A))
    c.write_chains.ensures.front)

pub returns-in-FreeList-clause-written : goal.returns-in-FreeList-clause-written
returns-in-FreeList-clause-written g c = rw c.in-FreeList.is
    (on_ok_weaker c.write_free_list.result (λ wrote told heard A stated counted.
    subst (λ f. g.K.Sink.written c.write_free_list.new.out ≡ g.K.Sink.written c.args.output.now ++ free_text f (g.S.Space.image c.args.s.now)) (stated A.header) (wrote told heard [] A))
    c.write_free_list.ensures.written)

pub returns-in-FreeList-clause-front : goal.returns-in-FreeList-clause-front
returns-in-FreeList-clause-front g c = rw c.in-FreeList.is
    (on_err_weaker c.write_free_list.result (λ front told heard A stated counted.
    subst (λ f. WroteFront (g.K.Sink.written c.args.output.now) (free_text f (g.S.Space.image c.args.s.now)) (g.K.Sink.written c.write_free_list.new.out)) (stated A.header) (front told heard [] A))
    c.write_free_list.ensures.front)
