-- A record is passed and noted.
use Rattle.std.proofs.Common.{◌≡◌, ◌||◌, false, not, eqb, refl, sym, ◌∙◌, ap}
use Rattle.std.specs.List.{list_any}
use Rattle.tdb_space.specs.FirstFault.{is_out, chain_number}
use Rattle.tdb_check.specs.Area.{is_out_at}
use Rattle.tdb_check.proofs.Areas.{out_is, not_true}
use Rattle.tdb_check.proofs.Following.{any_more, names_all}
use Rattle.tdb_check.proofs.Walked.{tested_none}
use Rattle.tdb_check.proofs.NextRecord.{keyed_where}
use Rattle.tdb_check.proofs.OneChain.{dead_more}
use Rattle.tdb_check.proofs.chain.pass_record.Goals as goal

pub returns-clause-good : goal.returns-clause-good
returns-clause-good g c told long xs noted =
    let f = g.S.Space.form c.args.s.now in
    let img = g.S.Space.image c.args.s.now in
    let chains : c.hash_size.result ≡ f.chains = c.hash_size.ensures in
    let test = c.can_stand.ensures ∙ ap (λ n. not (is_out_at n c.args.len c.args.at)) chains in
    let stands : is_out f img c.args.at ≡ false = out_is f img c.args.at c.args.len long ∙ not_true (is_out_at f.chains c.args.len c.args.at) (sym test ∙ c.if-not-can_stand.false) in
    let new_one : list_any (eqb c.args.at) xs ≡ false = sym (noted.offsets c.args.at) ∙ sym c.contains.ensures ∙ c.if-contains.false in
    let good = c.in-Ok.ensures.good told long in
    record {
      sound = tested_none f (chain_number c.args.j) img xs c.args.place c.args.at stands new_one good.0;
      header = good.1.header;
      noted = record {
        offsets = λ q. c.in_ok-note.ensures q ∙ ap (λ b. eqb q c.args.at || b) (noted.offsets q) ∙ any_more q c.args.at xs;
        keys = c.in_ok-note-2.ensures f img xs noted.keys good.1 (keyed_where f c.args.j img c.args.at stands good.0);
        dead = dead_more f img xs c.args.at c.in-Ok.found.header c.args.notes.now.dead.items c.note_dead.new.dead.items noted.dead good.1.header c.in_ok-note_dead.ensures;
      };
    }

pub returns-in-Err-clause-kept : goal.returns-in-Err-clause-kept
returns-in-Err-clause-kept g c = names_all c.in-Err.e (λ _. c.args.notes.now ≡ c.args.notes.now) (λ _. refl)
