-- A twin among the records of the walk comes first; without one they are passed, and the walk's end is the chain's.
use Rattle.std.proofs.Common.{◌≡◌, [], Option, None, Some, length, refl, sym, ◌∙◌, ap, subst, arith}
use Rattle.tdb_space.specs.Form.{chain_head}
use Rattle.tdb_space.specs.Accepted.{KeysDiffer}
use Rattle.tdb_space.specs.FirstFault.{chain_number, FirstInList}
use Rattle.tdb_check.specs.Extent.{extents_seen}
use Rattle.tdb_check.specs.declared.chain.End.TheVariants.{Fault}
use Rattle.tdb_check.specs.Keys.{KeptIn, TwinFound}
use Rattle.tdb_check.specs.Walked.{Walked}
use Rattle.tdb_check.specs.Notes.{EndsBy}
use Rattle.tdb_check.specs.Tails.{least_from, KnownTail, TailsOf, Closing}
use Rattle.tdb_check.proofs.Following.{names_then}
use Rattle.tdb_check.proofs.Rising.{rose_within}
use Rattle.tdb_check.proofs.Walking.{chain_read}
use Rattle.tdb_check.proofs.SameViews.{same_view}
use Rattle.tdb_check.proofs.Walked.{twin_first}
use Rattle.tdb_check.proofs.OneChain.{chain_none, going_end, going_fault, going_tail, going_closing, going_known, tails_put}
use Rattle.tdb_check.proofs.chain.follow_chain.Goals as goal

none_of : {A : Type 0} (o : Option A) → ((x : A) → o ≡ Some x → ⊥) → o ≡ None
none_of None h = refl
none_of (Some x) h = absurd (h x refl)

pub returns-then-first-eq0-clause-sound : goal.returns-then-first-eq0-clause-sound
returns-then-first-eq0-clause-sound g c told long is tails =
    (chain_none (g.S.Space.form c.args.s.now) c.args.j (g.S.Space.image c.args.s.now) c.args.extents.now.items (is ∙ c.if-first-eq0.true), tails)

pub returns-in-Err-clause-bad : goal.returns-in-Err-clause-bad
returns-in-Err-clause-bad g c told long is =
    names_then c.in-Err.e (λ _. ⊥) (FirstInList (g.S.Space.form c.args.s.now) (chain_number c.args.j) (g.S.Space.image c.args.s.now) (chain_head c.args.j)) (λ _ none. absurd none) c.in-Err.ensures.no_fault

pub returns-in-Some-clause-bad : goal.returns-in-Some-clause-bad
returns-in-Some-clause-bad g c told long is =
    let f = g.S.Space.form c.args.s.now in
    let img = g.S.Space.image c.args.s.now in
    let f2 = g.S.Space.form c.walk_chain.new.s in
    let img2 = g.S.Space.image c.walk_chain.new.s in
    let a = c.in-Ok.ensures in
    let d = a.walked told long is in
    let xs = d.so_far.xs in
    let keys = c.walk_chain.new.notes.keys in
    let again : length img2 ≡ c.args.len = ap length a.looked.image ∙ long in
    let there : KeptIn f2 img2 xs keys = same_view (λ h i. KeptIn h i xs keys) f f2 img img2 a.looked.form a.looked.image d.so_far.noted.keys in
    let found : TwinFound f img xs c.in-Ok-first_twin.twin =
    same_view (λ h i. TwinFound h i xs c.in-Ok-first_twin.twin) f2 f img2 img (sym a.looked.form) (sym a.looked.image) (c.in-Ok-first_twin.ensures.found told again xs there) in
    let t : TwinFound f img xs (Some c.in-Some.at) = subst (TwinFound f img xs) c.in-Some.is found in
    twin_first f (chain_number c.args.j) img (chain_head c.args.j) t.0 c.in-Some.at t.1 d.place (subst (λ zs. Walked f (chain_number c.args.j) img [] (chain_head c.args.j) zs d.place) t.2 d.so_far.walked) t.3 t.4

pub returns-in-Fault-clause-bad : goal.returns-in-Fault-clause-bad
returns-in-Fault-clause-bad g c told long is =
    let f = g.S.Space.form c.args.s.now in
    let img = g.S.Space.image c.args.s.now in
    let f2 = g.S.Space.form c.walk_chain.new.s in
    let img2 = g.S.Space.image c.walk_chain.new.s in
    let a = c.in-Ok.ensures in
    let d = a.walked told long is in
    let xs = d.so_far.xs in
    let keys = c.walk_chain.new.notes.keys in
    let again : length img2 ≡ c.args.len = ap length a.looked.image ∙ long in
    let there : KeptIn f2 img2 xs keys = same_view (λ h i. KeptIn h i xs keys) f f2 img img2 a.looked.form a.looked.image d.so_far.noted.keys in
    let found : TwinFound f img xs c.in-Ok-first_twin.twin =
    same_view (λ h i. TwinFound h i xs c.in-Ok-first_twin.twin) f2 f img2 img (sym a.looked.form) (sym a.looked.image) (c.in-Ok-first_twin.ensures.found told again xs there) in
    let differ : KeysDiffer f img xs = subst (TwinFound f img xs) (none_of c.in-Ok-first_twin.twin c.in_default.not-Some) found in
    let end : EndsBy f c.args.j img c.walk_chain.new.notes xs d.place d.at (Fault c.in-Fault.what c.in-Fault.at) = subst (EndsBy f c.args.j img c.walk_chain.new.notes xs d.place d.at) c.in-Fault.is d.ends in
    going_fault f c.args.j img c.walk_chain.new.notes c.args.extents.now.items c.walk_chain.new.extents.items c.in-Ok.walk.live d.place d.at d.so_far differ (c.in-Fault.what, c.in-Fault.at) end.0 end.1

pub returns-in_ok-keep-in-Last-clause-sound : goal.returns-in_ok-keep-in-Last-clause-sound
returns-in_ok-keep-in-Last-clause-sound g c told long is tails =
    let f = g.S.Space.form c.args.s.now in
    let img = g.S.Space.image c.args.s.now in
    let f2 = g.S.Space.form c.walk_chain.new.s in
    let img2 = g.S.Space.image c.walk_chain.new.s in
    let a = c.in-Ok.ensures in
    let d = a.walked told long is in
    let xs = d.so_far.xs in
    let keys = c.walk_chain.new.notes.keys in
    let again : length img2 ≡ c.args.len = ap length a.looked.image ∙ long in
    let there : KeptIn f2 img2 xs keys = same_view (λ h i. KeptIn h i xs keys) f f2 img img2 a.looked.form a.looked.image d.so_far.noted.keys in
    let found : TwinFound f img xs c.in-Ok-first_twin.twin =
    same_view (λ h i. TwinFound h i xs c.in-Ok-first_twin.twin) f2 f img2 img (sym a.looked.form) (sym a.looked.image) (c.in-Ok-first_twin.ensures.found told again xs there) in
    let differ : KeysDiffer f img xs = subst (TwinFound f img xs) (none_of c.in-Ok-first_twin.twin c.in_default.not-Some) found in
    let end : d.at ≡ 0 = subst (EndsBy f c.args.j img c.walk_chain.new.notes xs d.place d.at) c.in-Last.is d.ends in
    let t = c.walk_chain.new.notes.tails in
    let here : TailsOf f img (extents_seen c.args.extents.now.items) t = subst (TailsOf f img (extents_seen c.args.extents.now.items)) (sym a.tails) tails in
    let closing : Closing f img (extents_seen c.walk_chain.new.extents.items) t c.walk_chain.new.notes.dead.items None =
    going_closing f c.args.j img c.walk_chain.new.notes c.args.extents.now.items c.walk_chain.new.extents.items c.in-Ok.walk.live d.place d.at d.so_far differ t None end here in
    (going_end f c.args.j img c.walk_chain.new.notes c.args.extents.now.items c.walk_chain.new.extents.items c.in-Ok.walk.live d.place d.at d.so_far differ end, c.in_ok-keep-in-Last.ensures.tails f img (extents_seen c.walk_chain.new.extents.items) closing)

pub returns-in_ok-put-in-Known-clause-sound : goal.returns-in_ok-put-in-Known-clause-sound
returns-in_ok-put-in-Known-clause-sound g c told long is tails =
    let f = g.S.Space.form c.args.s.now in
    let img = g.S.Space.image c.args.s.now in
    let f2 = g.S.Space.form c.walk_chain.new.s in
    let img2 = g.S.Space.image c.walk_chain.new.s in
    let a = c.in-Ok.ensures in
    let d = a.walked told long is in
    let xs = d.so_far.xs in
    let keys = c.walk_chain.new.notes.keys in
    let again : length img2 ≡ c.args.len = ap length a.looked.image ∙ long in
    let there : KeptIn f2 img2 xs keys = same_view (λ h i. KeptIn h i xs keys) f f2 img img2 a.looked.form a.looked.image d.so_far.noted.keys in
    let found : TwinFound f img xs c.in-Ok-first_twin.twin =
    same_view (λ h i. TwinFound h i xs c.in-Ok-first_twin.twin) f2 f img2 img (sym a.looked.form) (sym a.looked.image) (c.in-Ok-first_twin.ensures.found told again xs there) in
    let differ : KeysDiffer f img xs = subst (TwinFound f img xs) (none_of c.in-Ok-first_twin.twin c.in_default.not-Some) found in
    let t = c.walk_chain.new.notes.tails in
    let least = c.in-Known.least in
    let end : least_from t d.at ≡ Some least = subst (EndsBy f c.args.j img c.walk_chain.new.notes xs d.place d.at) c.in-Known.is d.ends in
    let here : TailsOf f img (extents_seen c.args.extents.now.items) t = subst (TailsOf f img (extents_seen c.args.extents.now.items)) (sym a.tails) tails in
    let known : KnownTail f img (extents_seen c.walk_chain.new.extents.items) d.at least =
    going_tail f c.args.j img c.walk_chain.new.notes c.args.extents.now.items c.walk_chain.new.extents.items c.in-Ok.walk.live d.place d.at d.so_far differ t here least end in
    let closing : Closing f img (extents_seen c.walk_chain.new.extents.items) t c.walk_chain.new.notes.dead.items (Some least) =
    going_closing f c.args.j img c.walk_chain.new.notes c.args.extents.now.items c.walk_chain.new.extents.items c.in-Ok.walk.live d.place d.at d.so_far differ t (Some least) known here in
    let put = c.in_ok-put-in-Known.ensures.ok in (
      going_known f c.args.j img c.walk_chain.new.notes c.args.extents.now.items c.walk_chain.new.extents.items c.in-Ok.walk.live d.place d.at d.so_far differ least c.put.new.extents.items known put,
      tails_put f img c.walk_chain.new.extents.items c.put.new.extents.items least c.keep-in-Known.new.self put (c.in_ok-keep-in-Known.ensures.tails f img (extents_seen c.walk_chain.new.extents.items) closing),
    )

pub returns-in-Err-first_twin-clause-bytes_in_all : goal.returns-in-Err-first_twin-clause-bytes_in_all
returns-in-Err-first_twin-clause-bytes_in_all g c told long is =
    let f = g.S.Space.form c.args.s.now in
    let img = g.S.Space.image c.args.s.now in
    let f2 = g.S.Space.form c.walk_chain.new.s in
    let img2 = g.S.Space.image c.walk_chain.new.s in
    let a = c.in-Ok.ensures in
    let d = a.walked told long is in
    let xs = d.so_far.xs in
    let keys = c.walk_chain.new.notes.keys in
    let again : length img2 ≡ c.args.len = ap length a.looked.image ∙ long in
    let there : KeptIn f2 img2 xs keys = same_view (λ h i. KeptIn h i xs keys) f f2 img img2 a.looked.form a.looked.image d.so_far.noted.keys in
    chain_read f f2 img img2 c.args.j 65 xs d.place _ _ _ (omega (arith, long, c.requires.heads)) a.looked.form a.looked.image d.so_far.walked (a.bytes_read told long is)
    (c.in-Err-first_twin.ensures.bytes_in_all told again xs there)

pub returns-in-Some-clause-bytes_in_all : goal.returns-in-Some-clause-bytes_in_all
returns-in-Some-clause-bytes_in_all g c told long is =
    let f = g.S.Space.form c.args.s.now in
    let img = g.S.Space.image c.args.s.now in
    let f2 = g.S.Space.form c.walk_chain.new.s in
    let img2 = g.S.Space.image c.walk_chain.new.s in
    let a = c.in-Ok.ensures in
    let d = a.walked told long is in
    let xs = d.so_far.xs in
    let keys = c.walk_chain.new.notes.keys in
    let again : length img2 ≡ c.args.len = ap length a.looked.image ∙ long in
    let there : KeptIn f2 img2 xs keys = same_view (λ h i. KeptIn h i xs keys) f f2 img img2 a.looked.form a.looked.image d.so_far.noted.keys in
    chain_read f f2 img img2 c.args.j 65 xs d.place _ _ _ (omega (arith, long, c.requires.heads)) a.looked.form a.looked.image d.so_far.walked (a.bytes_read told long is)
    (c.in-Ok-first_twin.ensures.bytes_in_all told again xs there)

pub returns-in_err-keep-in-Last-clause-bytes_in_all : goal.returns-in_err-keep-in-Last-clause-bytes_in_all
returns-in_err-keep-in-Last-clause-bytes_in_all g c told long is =
    let f = g.S.Space.form c.args.s.now in
    let img = g.S.Space.image c.args.s.now in
    let f2 = g.S.Space.form c.walk_chain.new.s in
    let img2 = g.S.Space.image c.walk_chain.new.s in
    let a = c.in-Ok.ensures in
    let d = a.walked told long is in
    let xs = d.so_far.xs in
    let keys = c.walk_chain.new.notes.keys in
    let again : length img2 ≡ c.args.len = ap length a.looked.image ∙ long in
    let there : KeptIn f2 img2 xs keys = same_view (λ h i. KeptIn h i xs keys) f f2 img img2 a.looked.form a.looked.image d.so_far.noted.keys in
    chain_read f f2 img img2 c.args.j 65 xs d.place _ _ _ (omega (arith, long, c.requires.heads)) a.looked.form a.looked.image d.so_far.walked (a.bytes_read told long is)
    (c.in-Ok-first_twin.ensures.bytes_in_all told again xs there)

pub returns-in_err-keep-in-Known-clause-bytes_in_all : goal.returns-in_err-keep-in-Known-clause-bytes_in_all
returns-in_err-keep-in-Known-clause-bytes_in_all g c told long is =
    let f = g.S.Space.form c.args.s.now in
    let img = g.S.Space.image c.args.s.now in
    let f2 = g.S.Space.form c.walk_chain.new.s in
    let img2 = g.S.Space.image c.walk_chain.new.s in
    let a = c.in-Ok.ensures in
    let d = a.walked told long is in
    let xs = d.so_far.xs in
    let keys = c.walk_chain.new.notes.keys in
    let again : length img2 ≡ c.args.len = ap length a.looked.image ∙ long in
    let there : KeptIn f2 img2 xs keys = same_view (λ h i. KeptIn h i xs keys) f f2 img img2 a.looked.form a.looked.image d.so_far.noted.keys in
    chain_read f f2 img img2 c.args.j 65 xs d.place _ _ _ (omega (arith, long, c.requires.heads)) a.looked.form a.looked.image d.so_far.walked (a.bytes_read told long is)
    (c.in-Ok-first_twin.ensures.bytes_in_all told again xs there)

pub returns-in_err-put-in-Known-clause-bytes_in_all : goal.returns-in_err-put-in-Known-clause-bytes_in_all
returns-in_err-put-in-Known-clause-bytes_in_all g c told long is =
    let f = g.S.Space.form c.args.s.now in
    let img = g.S.Space.image c.args.s.now in
    let f2 = g.S.Space.form c.walk_chain.new.s in
    let img2 = g.S.Space.image c.walk_chain.new.s in
    let a = c.in-Ok.ensures in
    let d = a.walked told long is in
    let xs = d.so_far.xs in
    let keys = c.walk_chain.new.notes.keys in
    let again : length img2 ≡ c.args.len = ap length a.looked.image ∙ long in
    let there : KeptIn f2 img2 xs keys = same_view (λ h i. KeptIn h i xs keys) f f2 img img2 a.looked.form a.looked.image d.so_far.noted.keys in
    chain_read f f2 img img2 c.args.j 65 xs d.place _ _ _ (omega (arith, long, c.requires.heads)) a.looked.form a.looked.image d.so_far.walked (a.bytes_read told long is)
    (c.in-Ok-first_twin.ensures.bytes_in_all told again xs there)

pub returns-in-Fault-clause-bytes_in_all : goal.returns-in-Fault-clause-bytes_in_all
returns-in-Fault-clause-bytes_in_all g c told long is =
    let f = g.S.Space.form c.args.s.now in
    let img = g.S.Space.image c.args.s.now in
    let f2 = g.S.Space.form c.walk_chain.new.s in
    let img2 = g.S.Space.image c.walk_chain.new.s in
    let a = c.in-Ok.ensures in
    let d = a.walked told long is in
    let xs = d.so_far.xs in
    let keys = c.walk_chain.new.notes.keys in
    let again : length img2 ≡ c.args.len = ap length a.looked.image ∙ long in
    let there : KeptIn f2 img2 xs keys = same_view (λ h i. KeptIn h i xs keys) f f2 img img2 a.looked.form a.looked.image d.so_far.noted.keys in
    chain_read f f2 img img2 c.args.j 65 xs d.place _ _ _ (omega (arith, long, c.requires.heads)) a.looked.form a.looked.image d.so_far.walked (a.bytes_read told long is)
    (c.in-Ok-first_twin.ensures.bytes_in_all told again xs there)

pub returns-in_ok-keep-in-Last-clause-bytes_in_all : goal.returns-in_ok-keep-in-Last-clause-bytes_in_all
returns-in_ok-keep-in-Last-clause-bytes_in_all g c told long is =
    let f = g.S.Space.form c.args.s.now in
    let img = g.S.Space.image c.args.s.now in
    let f2 = g.S.Space.form c.walk_chain.new.s in
    let img2 = g.S.Space.image c.walk_chain.new.s in
    let a = c.in-Ok.ensures in
    let d = a.walked told long is in
    let xs = d.so_far.xs in
    let keys = c.walk_chain.new.notes.keys in
    let again : length img2 ≡ c.args.len = ap length a.looked.image ∙ long in
    let there : KeptIn f2 img2 xs keys = same_view (λ h i. KeptIn h i xs keys) f f2 img img2 a.looked.form a.looked.image d.so_far.noted.keys in
    chain_read f f2 img img2 c.args.j 65 xs d.place _ _ _ (omega (arith, long, c.requires.heads)) a.looked.form a.looked.image d.so_far.walked (a.bytes_read told long is)
    (c.in-Ok-first_twin.ensures.bytes_in_all told again xs there)

pub returns-in_ok-put-in-Known-clause-bytes_in_all : goal.returns-in_ok-put-in-Known-clause-bytes_in_all
returns-in_ok-put-in-Known-clause-bytes_in_all g c told long is =
    let f = g.S.Space.form c.args.s.now in
    let img = g.S.Space.image c.args.s.now in
    let f2 = g.S.Space.form c.walk_chain.new.s in
    let img2 = g.S.Space.image c.walk_chain.new.s in
    let a = c.in-Ok.ensures in
    let d = a.walked told long is in
    let xs = d.so_far.xs in
    let keys = c.walk_chain.new.notes.keys in
    let again : length img2 ≡ c.args.len = ap length a.looked.image ∙ long in
    let there : KeptIn f2 img2 xs keys = same_view (λ h i. KeptIn h i xs keys) f f2 img img2 a.looked.form a.looked.image d.so_far.noted.keys in
    chain_read f f2 img img2 c.args.j 65 xs d.place _ _ _ (omega (arith, long, c.requires.heads)) a.looked.form a.looked.image d.so_far.walked (a.bytes_read told long is)
    (c.in-Ok-first_twin.ensures.bytes_in_all told again xs there)

pub returns-in_ok-keep-in-Last-clause-bytes_read : goal.returns-in_ok-keep-in-Last-clause-bytes_read
returns-in_ok-keep-in-Last-clause-bytes_read g c told long is =
    let f = g.S.Space.form c.args.s.now in
    let img = g.S.Space.image c.args.s.now in
    let f2 = g.S.Space.form c.walk_chain.new.s in
    let img2 = g.S.Space.image c.walk_chain.new.s in
    let a = c.in-Ok.ensures in
    let d = a.walked told long is in
    let xs = d.so_far.xs in
    let keys = c.walk_chain.new.notes.keys in
    let again : length img2 ≡ c.args.len = ap length a.looked.image ∙ long in
    let there : KeptIn f2 img2 xs keys = same_view (λ h i. KeptIn h i xs keys) f f2 img img2 a.looked.form a.looked.image d.so_far.noted.keys in
    chain_read f f2 img img2 c.args.j 1 xs d.place _ _ _ (omega (arith, long, c.requires.heads)) a.looked.form a.looked.image d.so_far.walked (a.bytes_read told long is)
    (rose_within _ _ _ _ (c.in-Ok-first_twin.ensures.bytes_read (none_of c.in-Ok-first_twin.twin c.in_default.not-Some) told again xs there) (omega arith))

pub returns-in_ok-put-in-Known-clause-bytes_read : goal.returns-in_ok-put-in-Known-clause-bytes_read
returns-in_ok-put-in-Known-clause-bytes_read g c told long is =
    let f = g.S.Space.form c.args.s.now in
    let img = g.S.Space.image c.args.s.now in
    let f2 = g.S.Space.form c.walk_chain.new.s in
    let img2 = g.S.Space.image c.walk_chain.new.s in
    let a = c.in-Ok.ensures in
    let d = a.walked told long is in
    let xs = d.so_far.xs in
    let keys = c.walk_chain.new.notes.keys in
    let again : length img2 ≡ c.args.len = ap length a.looked.image ∙ long in
    let there : KeptIn f2 img2 xs keys = same_view (λ h i. KeptIn h i xs keys) f f2 img img2 a.looked.form a.looked.image d.so_far.noted.keys in
    chain_read f f2 img img2 c.args.j 1 xs d.place _ _ _ (omega (arith, long, c.requires.heads)) a.looked.form a.looked.image d.so_far.walked (a.bytes_read told long is)
    (rose_within _ _ _ _ (c.in-Ok-first_twin.ensures.bytes_read (none_of c.in-Ok-first_twin.twin c.in_default.not-Some) told again xs there) (omega arith))
