-- What the file gains is given to the list.
use Rattle.std.proofs.Common.{◌≡◌, ◌+◌, ◌≤◌, ◌∙◌, [], ◌∷◌, sym, subst, length, arith}
use Rattle.std.proofs.lemmas.Result.{on_ok_weaker}
use Rattle.tdb_disk.specs.Image.{padded}
use Rattle.tdb_words.specs.Word.{word}
use Rattle.tdb_space.specs.Form.{free_head}
use Rattle.tdb_space.specs.Chain.{Free}
use Rattle.tdb_free.specs.FreeList.{CanBeGiven, Given}
use Rattle.tdb_free.specs.Growth.{grown_hand}
use Rattle.tdb_free.specs.OnlyList.{OnlyListChanges}
use Rattle.tdb_free.proofs.Growth.{gain_given}
use Rattle.tdb_free.proofs.Costs.{beside_most}
use Rattle.tdb_free.proofs.OnlyList.{grown_only}
use Rattle.tdb_free.proofs.growing.grow_by.Goals as goal

pub returns-clause-given : goal.returns-clause-given
returns-clause-given g c =
    let f = g.S.Space.form c.args.s.now in
    let a = g.S.Space.image c.args.s.now in
    let grown = g.S.Space.image c.grow.new.self in
    let b = g.S.Space.image c.give.new.s in
    let to = c.args.to in
    on_ok_weaker c.give.result (λ given told offs C.
    (let sized : length a ≡ c.args.len = g.met.S.Space.told_size c.args.s.now told ∙ sym c.requires.length in
    let G = subst (λ n. CanBeGiven f (padded a to) offs (grown_hand n to)) sized
    (gain_given f a offs to C c.requires.aligned_to (omega (arith, c.requires.least, sized)) c.requires.short) in
    let move = subst (λ q. CanBeGiven q grown offs c.new.result → Given q grown b offs c.new.result) c.grow.ensures.form (given told offs) in
    let place = subst (λ h. CanBeGiven f grown offs h → Given f grown b offs h) c.new.ensures move in
    subst (λ x. CanBeGiven f x offs (grown_hand c.args.len to) → Given f x b offs (grown_hand c.args.len to)) (c.in_ok-grow.ensures.image told) place G)) c.give.ensures.given

pub returns-clause-only : goal.returns-clause-only
returns-clause-only g c told offs C =
    let f = g.S.Space.form c.args.s.now in
    let a = g.S.Space.image c.args.s.now in
    let grown = g.S.Space.image c.grow.new.self in
    let b = g.S.Space.image c.give.new.s in
    let to = c.args.to in
    let sized : length a ≡ c.args.len = g.met.S.Space.told_size c.args.s.now told ∙ sym c.requires.length in
    let more : length a + 28 ≤ to = omega (arith, c.requires.least, sized) in
    let G = gain_given f a offs to C c.requires.aligned_to more c.requires.short in
    let move = subst (λ q. CanBeGiven q grown offs c.new.result → OnlyListChanges q grown b offs (c.new.result ∷ [])) c.grow.ensures.form (c.give.ensures.only told offs) in
    let place = subst (λ h. CanBeGiven f grown offs h → OnlyListChanges f grown b offs (h ∷ [])) c.new.ensures move in
    let here = subst (λ x. CanBeGiven f x offs (grown_hand c.args.len to) → OnlyListChanges f x b offs (grown_hand c.args.len to ∷ [])) (c.in_ok-grow.ensures.image told) place in
    grown_only f a offs to C c.requires.aligned_to more c.requires.short b
    (subst (λ n. CanBeGiven f (padded a to) offs (grown_hand n to) → OnlyListChanges f (padded a to) b offs (grown_hand n to ∷ [])) (sym sized) here G)

-- what the give reads
pub returns-clause-reads : goal.returns-clause-reads
returns-clause-reads g c told offs C =
    let f = g.S.Space.form c.args.s.now in
    let a = g.S.Space.image c.args.s.now in
    let grown = g.S.Space.image c.grow.new.self in
    let sized : length a ≡ c.args.len = g.met.S.Space.told_size c.args.s.now told ∙ sym c.requires.length in
    let list = (gain_given f a offs c.args.to C c.requires.aligned_to (omega (arith, c.requires.least, sized)) c.requires.short).listed.list in
    let there = subst (λ q. Free q grown (word q.order grown free_head) offs) (sym c.grow.ensures.form) (subst (λ x. Free f x (word f.order x free_head) offs) (sym (c.in_ok-grow.ensures.image told)) list) in
    let walked = c.give.ensures.walked told offs there (length offs) (beside_most (g.S.Space.form c.grow.new.self) grown offs c.new.result) in
    record { no_more = omega (arith, walked.no_more, c.grow.ensures.bytes_read); never_falls = omega (arith, walked.never_falls, c.grow.ensures.bytes_read) }
