-- No two of all records have one key; or so many have none twice, and one more has.
use Rattle.std.proofs.Common.{◌≡◌, ℕ, ◌+◌, ◌-◌, ◌*◌, ◌/◌, ◌<◌, ◌≤◌, suc, Bool, List, IsTrue, get_or, length, take, sym, ◌∙◌, ap, subst, arith, rules}
use Rattle.std.proofs.lemmas.Bool.{MatchBool-at_true, MatchBool-at_false}
use Rattle.std.proofs.lemmas.List.{take_all, get_or_default}
use Rattle.tdb_check.specs.declared.keys.Noted.{Noted}
use Rattle.std.specs.Prelude.{MatchBool}
use Rattle.tdb_words.specs.Hash.{h_jenkins}
use Rattle.tdb_space.specs.Form.{Form}
use Rattle.tdb_check.specs.Keys.{AllNoted, NotedDiffer, notes_of}
use Rattle.tdb_check.proofs.SameViews.{same_view}
use Rattle.tdb_check.proofs.Notings.{differ_from, differ_none, NotedSplit, split_at, twin_from}
use Rattle.tdb_disk.specs.Count.{RoseUpTo}
use Rattle.tdb_check.specs.Reads.{twin_reads}
use Rattle.tdb_check.proofs.Pairs.{twin_reads_take}
use Rattle.tdb_check.proofs.Rising.{rose_within}
use Rattle.tdb_check.proofs.Halving.{halved_start, halved_more, halved_all}
use Rattle.tdb_check.proofs.keys.Keys.first_twin.Goals as goal

-- what was read and found of a view that was left as it was
look_there : (f f2 : Form) (img img2 : List ℕ) (all met : List Noted) (n x y : ℕ) → f2 ≡ f → img2 ≡ img → met ≡ all → RoseUpTo (twin_reads f2 img2 (take n met)) x y → RoseUpTo (twin_reads f img all) x y
look_there f f2 img img2 all met n x y form image same p =
    rose_within _ _ _ _ (same_view (λ h i. RoseUpTo (twin_reads h i (take n all)) x y) f2 f img2 img (sym form) (sym image) (subst (λ es. RoseUpTo (twin_reads f2 img2 (take n es)) x y) same p)) (twin_reads_take f img n all)

found_there : (f f2 : Form) (img img2 : List ℕ) (all met : List Noted) (n : ℕ) (twins : Bool) → f2 ≡ f → img2 ≡ img → met ≡ all → MatchBool twins (NotedDiffer f2 img2 (take n met) → ⊥) (NotedDiffer f2 img2 (take n met)) → MatchBool twins (NotedDiffer f img (take n all) → ⊥) (NotedDiffer f img (take n all))
found_there f f2 img img2 all met n twins form image same p =
    same_view (λ h i. MatchBool twins (NotedDiffer h i (take n all) → ⊥) (NotedDiffer h i (take n all))) f2 f img2 img (sym form) (sym image)
    (subst (λ es. MatchBool twins (NotedDiffer f2 img2 (take n es) → ⊥) (NotedDiffer f2 img2 (take n es))) same p)

noted_there : (f f2 : Form) (img img2 : List ℕ) (all met : List Noted) → f2 ≡ f → img2 ≡ img → met ≡ all → AllNoted h_jenkins f img all → AllNoted h_jenkins f2 img2 met
noted_there f f2 img img2 all met form image same h =
    subst (AllNoted h_jenkins f2 img2) (sym same) (same_view (λ g i. AllNoted h_jenkins g i all) f f2 img img2 form image h)

pub returns-then-not-twins-clause-found : goal.returns-then-not-twins-clause-found
returns-then-not-twins-clause-found g c told long xs kept =
    let f = g.S.Space.form c.args.s.now in
    let img = g.S.Space.image c.args.s.now in
    let all = c.args.self.now.noted.items in
    let apart : NotedDiffer f img (take c.len-most.result all) = MatchBool-at_false _ _ c.if-not-twins.true (c.in-Ok.ensures.twins told long kept.all_noted) in
    let long2 : length all ≤ c.len-most.result = omega arith in
    let whole : take c.len-most.result all ≡ notes_of f img xs = take_all c.len-most.result all long2 ∙ kept.noted in
    differ_from f img xs (subst (NotedDiffer f img) whole apart)

pub loop-most-init : goal.loop-most-init
loop-most-init g c =
    let f = g.S.Space.form c.args.s.now in
    let img = g.S.Space.image c.args.s.now in
    record {
      within = search rules;
      some = c.in-Ok.ensures.some c.if-not-twins.false;
      noted = search rules;
      apart = λ told long all. differ_none f img;
      twice = λ told long all. MatchBool-at_true _ _ c.if-not-twins.false (c.in-Ok.ensures.twins told long all);
      halved = λ told long all.
          (let reads = rose_within _ _ _ _ (c.in-Ok.ensures.bytes_read told long all) (twin_reads_take f img c.len-most.result c.args.self.now.noted.items) in
          halved_start (twin_reads f img c.args.self.now.noted.items) (c.len-most.result - 0) _ _ (omega arith) reads);
      looked = search rules;
      faults = search rules;
    }

pub returns-clause-found : goal.returns-clause-found
returns-clause-found g c told long xs kept =
    let f = g.S.Space.form c.args.s.now in
    let img = g.S.Space.image c.args.s.now in
    let all = c.args.self.now.noted.items in
    let v = c.loop-most.invariant in
    let low : c.loop-most.least < length all = omega (arith, v.within, v.some) in
    let one : c.loop-most.most ≡ suc c.loop-most.least = omega (arith, v.some) in
    let low2 : c.loop-most.least < length (notes_of f img xs) = subst (λ (es : List Noted). c.loop-most.least < length es) kept.noted low in
    let none : Noted = record { mark = 0; key_len = 0; at = 0 } in
    let there : (get_or (notes_of f img xs) c.loop-most.least none).at ≡ c.index.result.now.at =
    ap (λ (e : Noted). e.at) (get_or_default (notes_of f img xs) c.loop-most.least none c.index.result.now low2 ∙ (λ i. get_or (sym kept.noted i) c.loop-most.least c.index.result.now) ∙ (λ i. get_or (sym v.noted i).items c.loop-most.least c.index.result.now) ∙ sym c.index.ensures) in
    let s = subst (NotedSplit f img xs c.loop-most.least) there (split_at f img xs c.loop-most.least none low2) in
    twin_from f img xs c.loop-most.least c.index.result.now.at s
    (subst (λ es. NotedDiffer f img (take c.loop-most.least es)) kept.noted (v.apart told long kept.all_noted))
    (λ d. v.twice told long kept.all_noted (subst (λ n. NotedDiffer f img (take n all)) (sym one) (subst (λ es. NotedDiffer f img (take (suc c.loop-most.least) es)) (sym kept.noted) d)))

pub returns-clause-bytes_in_all : goal.returns-clause-bytes_in_all
returns-clause-bytes_in_all g c told long xs kept =
    let f = g.S.Space.form c.args.s.now in
    let img = g.S.Space.image c.args.s.now in
    subst (λ es. RoseUpTo (65 * twin_reads f img es) (g.S.Space.bytes_read c.args.s.now) (g.S.Space.bytes_read c.loop-most.s)) kept.noted
    (halved_all _ _ _ _ (c.loop-most.invariant.halved told long kept.all_noted))

pub returns-in-Err-has_twins-clause-bytes_in_all : goal.returns-in-Err-has_twins-clause-bytes_in_all
returns-in-Err-has_twins-clause-bytes_in_all g c told long xs kept =
    let f = g.S.Space.form c.args.s.now in
    let img = g.S.Space.image c.args.s.now in
    let f2 = g.S.Space.form c.loop-most.s in
    let img2 = g.S.Space.image c.loop-most.s in
    let all = c.args.self.now.noted.items in
    let met = c.loop-most.self.noted.items in
    let v = c.loop-most.invariant in
    let middle = c.loop-most.least + (c.loop-most.most - c.loop-most.least) / 2 in
    let same : met ≡ all = λ i. (v.noted i).items in
    let there = noted_there f f2 img img2 all met v.looked.form v.looked.image same kept.all_noted in
    let look = look_there f f2 img img2 all met middle _ _ v.looked.form v.looked.image same (c.in-Err-has_twins.ensures.bytes_read told (ap length v.looked.image ∙ long) there) in
    subst (λ es. RoseUpTo (65 * twin_reads f img es) (g.S.Space.bytes_read c.args.s.now) (g.S.Space.bytes_read c.has_twins-in-loop-most.new.s)) kept.noted
    (halved_more (twin_reads f img all) (c.loop-most.most - c.loop-most.least) (middle - c.loop-most.least) _ _ _ (omega arith) (omega arith) (v.halved told long kept.all_noted) look).1

pub loop-most-preserved-then-twins : goal.loop-most-preserved-then-twins
loop-most-preserved-then-twins g c =
    let f = g.S.Space.form c.args.s.now in
    let img = g.S.Space.image c.args.s.now in
    let f2 = g.S.Space.form c.loop-most.s in
    let img2 = g.S.Space.image c.loop-most.s in
    let all = c.args.self.now.noted.items in
    let met = c.loop-most.self.noted.items in
    let v = c.loop-most.invariant in
    let middle = c.loop-most.least + (c.loop-most.most - c.loop-most.least) / 2 in
    let same : met ≡ all = λ i. (v.noted i).items in
    let w = c.in-Ok-has_twins.ensures in
    let found = λ (told : IsTrue g.S.Space.tells) (long : length img ≡ c.args.len) (each : AllNoted h_jenkins f img all).
    found_there f f2 img img2 all met middle c.in-Ok-has_twins.twins v.looked.form v.looked.image same
    (w.twins told (ap length v.looked.image ∙ long) (noted_there f f2 img img2 all met v.looked.form v.looked.image same each)) in
    record {
      within = omega (arith, v.within);
      some = omega arith;
      noted = search rules;
      apart = λ told long each. v.apart told long each;
      twice = λ told long each. MatchBool-at_true _ _ c.if-twins.true (found told long each);
      halved = λ told long each.
          (let there = noted_there f f2 img img2 all met v.looked.form v.looked.image same each in
          let look = look_there f f2 img img2 all met middle _ _ v.looked.form v.looked.image same (w.bytes_read told (ap length v.looked.image ∙ long) there) in
          (halved_more (twin_reads f img all) (c.loop-most.most - c.loop-most.least) (middle - c.loop-most.least) _ _ _ (omega arith) (omega arith) (v.halved told long each) look).0);
      looked = search rules;
      faults = search rules;
    }

pub loop-most-preserved : goal.loop-most-preserved
loop-most-preserved g c =
    let f = g.S.Space.form c.args.s.now in
    let img = g.S.Space.image c.args.s.now in
    let f2 = g.S.Space.form c.loop-most.s in
    let img2 = g.S.Space.image c.loop-most.s in
    let all = c.args.self.now.noted.items in
    let met = c.loop-most.self.noted.items in
    let v = c.loop-most.invariant in
    let middle = c.loop-most.least + (c.loop-most.most - c.loop-most.least) / 2 in
    let same : met ≡ all = λ i. (v.noted i).items in
    let w = c.in-Ok-has_twins.ensures in
    let found = λ (told : IsTrue g.S.Space.tells) (long : length img ≡ c.args.len) (each : AllNoted h_jenkins f img all).
    found_there f f2 img img2 all met middle c.in-Ok-has_twins.twins v.looked.form v.looked.image same
    (w.twins told (ap length v.looked.image ∙ long) (noted_there f f2 img img2 all met v.looked.form v.looked.image same each)) in
    record {
      within = omega (arith, v.within);
      some = omega arith;
      noted = search rules;
      apart = λ told long each. MatchBool-at_false _ _ c.if-twins.false (found told long each);
      twice = λ told long each. v.twice told long each;
      halved = λ told long each.
          (let there = noted_there f f2 img img2 all met v.looked.form v.looked.image same each in
          let look = look_there f f2 img img2 all met middle _ _ v.looked.form v.looked.image same (w.bytes_read told (ap length v.looked.image ∙ long) there) in
          (halved_more (twin_reads f img all) (c.loop-most.most - c.loop-most.least) (c.loop-most.most - middle) _ _ _ (omega arith) (omega arith) (v.halved told long each) look).0);
      looked = search rules;
      faults = search rules;
    }
