-- The plays of generated commands, part by part.
use Rattle.std.proofs.Common.{◌≡◌, ℕ, Bool, map, List, [], ◌∷◌, ◌++◌, Result, Ok, Err, refl, sym, ◌∙◌, ap, subst}
use Rattle.std.proofs.lemmas.List.{append-nil, map-append}
use Rattle.std.proofs.lemmas.List.Concat.{flat_map-cons}
use Rattle.tdb_space.specs.Form.{Form}
use Rattle.tdb_law.specs.Lines.{Line as LawLine}
use Rattle.tdb_law.specs.Plays.{Course}
use Rattle.tdb_law.specs.World.{State}
use Rattle.tdb_commands.specs.InLaw.{law_play, law_plays, law_line, law_lines}
use Rattle.tdb_commands.specs.declared.line.Line.{Line}
use Rattle.tdb_commands.specs.declared.play.Play.{Play}
use Rattle.tdb_gen.specs.declared.fault.GenFault.{GenFault}
use Rattle.tdb_gen.specs.Plays.{joins, groups, group_list, group_plays, together}
use Rattle.tdb_gen.specs.Rounds.{IsReady}
use Rattle.tdb_gen.specs.Taking.{AllTaken, HaveJoined, Parts, Place, Taken}
use Rattle.tdb_gen.proofs.GoingOn.{parted, joins_done, groups_done}
use Rattle.tdb_gen.proofs.Takings.{taken_join}

-- lines whose words in the law are in two parts
lines_parted : (lines : List Line) (front rest : List LawLine) → law_lines lines ≡ front ++ rest → (a : List Line) × (b : List Line) × (lines ≡ a ++ b) × (law_lines a ≡ front) × (law_lines b ≡ rest)
lines_parted lines [] rest e = ([], lines, refl, refl, e)
lines_parted [] (x ∷ front) rest e = absurd (cc e)
lines_parted (line ∷ lines) (x ∷ front) rest e =
    let first : law_line line ≡ x = cc in
    let others : law_lines lines ≡ front ++ rest = cc in
    let q = lines_parted lines front rest others in
    (line ∷ q.0, q.1, ap (λ ls. line ∷ ls) q.2, (λ j. first j ∷ q.3 j), q.4)

-- a part alone
pub joins_parts : (f : Form) (old new : State) (lines : List Line) → IsReady f old → Course f old (law_plays joins) (law_lines lines) new → Parts f old (joins ∷ []) lines new
joins_parts f old new lines R C = (new, lines, [], sym (append-nil lines), C, (joins_done f old new (law_lines lines) R C).idle, (refl, refl))

-- groups, one after the other
pub groups_parts : (f : Form) (n seed : ℕ) (ks : List ℕ) (old new : State) (lines : List Line) → IsReady f old → Course f old (law_plays (together (map (group_plays n seed) ks))) (law_lines lines) new
    → Parts f old (map (group_plays n seed) ks) lines new × IsReady f new
groups_parts f n seed [] old new lines R C = ((nothing lines C.0, C.1), subst (IsReady f) (sym C.1) R)
  where
    nothing : (ls : List Line) → law_lines ls ≡ [] → ls ≡ []
    nothing [] e = refl
    nothing (line ∷ ls) e = absurd (cc e)
groups_parts f n seed (k ∷ ks) old new lines R C =
    let rest = together (map (group_plays n seed) ks) in
    let split = ap law_plays (flat_map-cons (λ (plays : List Play). plays) (group_plays n seed k) (map (group_plays n seed) ks)) ∙ map-append law_play (group_plays n seed k) rest in
    let P = parted f (law_plays (group_plays n seed k)) (law_plays rest) old new (law_lines lines) (subst (λ ps. Course f old ps (law_lines lines) new) split C) in
    let q = lines_parted lines P.front P.rest P.told in
    let one = subst (λ ls. Course f old (law_plays (group_plays n seed k)) ls P.mid) (sym q.3) P.first in
    let done = groups_done n seed k f old P.mid (law_lines q.0) R one in
    let others = groups_parts f n seed ks P.mid new q.1 done (subst (λ ls. Course f P.mid (law_plays rest) ls new) (sym q.4) P.second) in
    ((P.mid, q.0, q.1, q.2, one, done.idle, others.0), others.1)

-- the groups behind the joins, as far as they came
pub all_parts : (t : Bool) (n seed : ℕ) (old mid new : Place) → Taken t old mid joins (Ok tt) → HaveJoined old.over.world mid.over.world 3 → (answer : Result (Unit {0}) GenFault)
    → Taken t mid new (together (group_list n seed (groups n))) answer → AllTaken t n seed old new answer
all_parts t n seed old mid new J three (Ok v) T =
    record { taken = taken_join t old mid new joins J (Ok v) (together (group_list n seed (groups n))) T; parts = record { mid = mid; joined = J; three = three; done = T } }
all_parts t n seed old mid new J three (Err e) T = record { taken = taken_join t old mid new joins J (Err e) (together (group_list n seed (groups n))) T; parts = tt }
