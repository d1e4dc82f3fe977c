-- A used record is noted behind the others.
use Rattle.std.proofs.Common.{◌≡◌, ◌≢◌, [], ◌∷◌, ◌++◌, refl, sym, ◌∙◌, ap, subst}
use Rattle.tdb_words.specs.declared.record.Rec.{Rec}
use Rattle.tdb_words.specs.declared.record.TheConstants.{USED}
use Rattle.tdb_words.specs.Hash.{h_jenkins}
use Rattle.tdb_space.specs.Record.{magic_of}
use Rattle.tdb_check.specs.Keys.{AllNoted, noted_at}
use Rattle.tdb_check.proofs.Notings.{notes_push_used, notes_push_other, noted_push}
use Rattle.tdb_check.proofs.keys.Keys.note.Goals as goal

pub returns-then-found-ne-USED : goal.returns-then-found-ne-USED
returns-then-found-ne-USED c f img xs kept there keyed =
    let other : magic_of f.order img c.args.at ≢ USED = λ used. c.if-found-ne-USED.true (ap (λ (x : Rec). x.magic) there.header ∙ used) in
    record { noted = kept.noted ∙ sym (notes_push_other f img xs c.args.at other); all_noted = kept.all_noted }

pub returns : goal.returns
returns c f img xs kept there keyed =
    let used : magic_of f.order img c.args.at ≡ USED = sym (ap (λ (x : Rec). x.magic) there.header) ∙ c.if-found-ne-USED.false in
    let noted : (record { mark = c.args.found.now.mark; key_len = c.args.found.now.header.key_len; at = c.args.at }) ≡ noted_at f img c.args.at = (λ i. (record { mark = there.mark used i; key_len = (there.header i).key_len; at = c.args.at })) in
    record {
      noted = c.in_ok-push.ensures.items ∙ (λ i. kept.noted i ++ noted i ∷ []) ∙ sym (notes_push_used f img xs c.args.at used);
      all_noted = subst (AllNoted h_jenkins f img) (sym (c.in_ok-push.ensures.items ∙ (λ i. c.args.self.now.noted.items ++ noted i ∷ [])))
          (noted_push h_jenkins f img c.args.self.now.noted.items (noted_at f img c.args.at) kept.all_noted (record { within = keyed used; long = refl; marked = refl }));
    }
