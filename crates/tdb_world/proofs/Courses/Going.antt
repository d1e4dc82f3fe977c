-- Turns of an opener and plays, one after the other, as they lead from one moment to the next.
use Rattle.std.proofs.Common.{◌≡◌, ℕ, suc, take, drop, length, get_or, ◌+◌, ◌<◌, Bool, List, [], ◌∷◌, ◌++◌, Result, Ok, Err, refl, sym, ◌∙◌, ap, subst}
use Rattle.std.proofs.lemmas.List.{take_more, map-append}
use Rattle.std.proofs.Math.Seq.{split_at}
use Rattle.tdb_space.specs.Form.{Form, form_in}
use Rattle.tdb_law.specs.Commands.{Command}
use Rattle.tdb_law.specs.World.{State}
use Rattle.tdb_law.specs.Lines.{Line}
use Rattle.tdb_law.specs.Plays.{Play, Goes, Gives, Course, most_turns}
use Rattle.tdb_law.specs.Plays.Play.{TakeTurn, Go, Do}
use Rattle.tdb_law.specs.Plays.Gives.{gives_turns, gives_all}
use Rattle.tdb_commands.specs.declared.play.Play.{Play as CodePlay}
use Rattle.tdb_commands.specs.InLaw.{law_opener, law_play, law_plays}
use Rattle.tdb_openers.specs.declared.fault.RunFault.{RunFault}
use Rattle.tdb_openers.specs.Played.{Nothing, Steps, TakesOne, GoesSome, Begun, ComesTo, PlaysLast}
use Rattle.tdb_openers.specs.Played.Begun.{begun_not, begun_turns, begun_command}
use Rattle.tdb_openers.proofs.Joining.Courses.{steps_only, steps_nothing, turn_gives, course_then, course_begun, course_last}
use Rattle.tdb_world.specs.Whole.{form_at}
use Rattle.tdb_world.specs.Courses.Led.{Moment, Led}
use Rattle.tdb_world.specs.Courses.Told.{PlayLed}
use Rattle.tdb_world.specs.Courses.Turns.{TakesOrClears, GoesOrClears}
use Rattle.tdb_world.proofs.Courses.Answered.{GivesTo}
use Rattle.tdb_world.proofs.Courses.Courses.{GoesAfter, goes_after, steps_then, turn_last, go_last, do_last}
use Rattle.tdb_world.proofs.Courses.Leading.{led_whole, led_fault, led_join}

-- a turn behind steps
module _ (tells : Bool) (old mid new : Moment) (who n : ℕ) (low : n < 9)
    (A : Led {V = Unit {0}} tells old mid (Ok tt) (λ state _. Steps (form_at old.world) n state who) (λ state. GoesSome (form_at old.world) state who) (λ state. GoesOrClears (form_at old.world) state who)) where
  pub turn_joined : (r : Result Bool RunFault) → Led tells mid new r (λ state. TakesOne (form_at mid.world) state who) Nothing (λ state. TakesOrClears (form_at mid.world) state who)
      → Led tells old new r (λ state. GoesAfter (form_at old.world) n state who) (λ state. GoesSome (form_at old.world) state who) (λ state. GoesOrClears (form_at old.world) state who)
  turn_joined r B =
      led_join tells old mid new tt _ _ _ _ _ _ _ _ _ A r (subst (λ h. Led tells mid new r (λ state. TakesOne (form_in h) state who) Nothing (λ state. TakesOrClears (form_in h) state who)) A.header B)
      (λ state m more front rest z is S T. goes_after (form_at old.world) n state m z who more front rest low S T)
      (λ state m front rest z is S none. steps_nothing (form_at old.world) n state m z who front rest S none)
      (λ state m front rest z is S T. steps_then (form_at old.world) n state m z who front rest low S T)

-- a turn and turns as a play of their own
module _ (tells : Bool) (old new : Moment) (who : ℕ) where
  pub turn_led : {V : Type 0} (more : Bool) (v : V) → Led tells old new (Ok more) (λ state. TakesOne (form_at old.world) state who) Nothing (λ state. TakesOrClears (form_at old.world) state who) → PlayLed tells old new (Ok v) (TakeTurn who)
  turn_led more v A = led_whole tells old new _ _ _ _ _ _ more v A (λ state lines z is T. turn_gives (form_at old.world) state who more lines z T)

  pub turn_fault : {V : Type 0} (e : RunFault) → Led {V = Bool} tells old new (Err e) (λ state. TakesOne (form_at old.world) state who) Nothing (λ state. TakesOrClears (form_at old.world) state who) → PlayLed {V = V} tells old new (Err e) (TakeTurn who)
  turn_fault e A = led_fault tells old new _ _ _ _ _ _ e A (λ state lines z is none. begun_not none.0 none.1) (λ state lines z is T. turn_last (form_at old.world) state who lines z T)

  pub go_led : (r : Result (Unit {0}) RunFault) → Led tells old new r (λ state _. Goes (form_at old.world) most_turns state who) (λ state. GoesSome (form_at old.world) state who) (λ state. GoesOrClears (form_at old.world) state who)
      → PlayLed tells old new r (Go who)
  go_led (Ok v) A = led_whole tells old new _ _ _ _ _ _ v v A (λ state lines z is G. gives_turns who refl G)
  go_led (Err e) A =
      led_fault {V = Unit {0}} tells old new _ _ _ _ _ _ e A (λ state lines z is some. begun_turns who some.0 refl (steps_only (form_at old.world) some.0 state z who lines some.1))
      (λ state lines z is G. go_last (form_at old.world) state who lines z G)

-- a command that is given, and then its turns
module _ (tells : Bool) (old mid new : Moment) (who : ℕ) (c : Command) (PA LA : State → List Line → State → Type 0)
    (A : Led {V = Unit {0}} tells old mid (Ok tt) (λ state _. GivesTo who c state) PA LA) where
  abbrev o : ℕ
  o = law_opener who

  abbrev f : Form
  f = form_at old.world

  pub do_led : (r : Result (Unit {0}) RunFault) → Led tells mid new r (λ state _. Goes (form_at mid.world) most_turns state o) (λ state. GoesSome (form_at mid.world) state o) (λ state. GoesOrClears (form_at mid.world) state o)
      → PlayLed tells old new r (Do o c)
  do_led r B =
      led_join tells old mid new tt _ _ _ _ _ _ _ _ _ A r
      (subst (λ h. Led tells mid new r (λ state _. Goes (form_in h) most_turns state o) (λ state. GoesSome (form_in h) state o) (λ state. GoesOrClears (form_in h) state o)) A.header B)
      (λ state m v front rest z is G T. subst (λ ls. Gives f state (Do o c) (ls ++ rest) z) (sym G.0) (gives_all o c m refl G.1 T))
      (λ state m front rest z is G T. subst (λ ls. Begun f state (Do o c) (ls ++ rest) z) (sym G.0) (begun_command o T.0 c m refl G.1 (steps_only f T.0 m z o rest T.1)))
      (λ state m front rest z is G T. subst (λ ls. PlaysLast f state (Do o c) (ls ++ rest) z) (sym G.0) (do_last f state o c m G.1 rest z T))

-- plays, and then another in front of those that are left
module _ (tells : Bool) (old mid new : Moment) (done left : List Play) (play : Play) (PA LA : State → List Line → State → Type 0)
    (A : Led {V = Unit {0}} tells old mid (Ok tt) (λ state _. Course (form_at old.world) state done) PA LA) where
  play_joined : (r : Result (Unit {0}) RunFault) → PlayLed tells mid new r play
      → Led tells old new r (λ state _. Course (form_at old.world) state (done ++ play ∷ [])) (λ state. ComesTo (form_at old.world) state (done ++ play ∷ left)) (λ state. ComesTo (form_at old.world) state (done ++ play ∷ left))
  play_joined r B =
      led_join tells old mid new tt _ _ _ _ _ _ _ _ _ A r
      (subst (λ h. Led tells mid new r (λ state _. Gives (form_in h) state play) (λ state. Begun (form_in h) state play) (λ state. PlaysLast (form_in h) state play)) A.header B)
      (λ state m v front rest z is C G. course_then (form_at old.world) done play state m z front rest C G)
      (λ state m front rest z is C T. course_begun (form_at old.world) done (play ∷ left) state m z front rest C T)
      (λ state m front rest z is C T. course_last (form_at old.world) done left play state m z front rest C T)

-- plays up to one of a list, with it, and all
plays_more : (xs : List CodePlay) (i : ℕ) (x : CodePlay) → i < length xs → x ≡ get_or xs i x → law_plays (take (i + 1) xs) ≡ law_plays (take i xs) ++ law_play x ∷ []
plays_more xs i x low e =
    ap law_plays (take_more xs i x low) ∙ (map-append law_play (take i xs) (get_or xs i x ∷ []) ∙ ap (λ p. law_plays (take i xs) ++ law_play p ∷ []) (sym e))

plays_cut : (xs : List CodePlay) (i : ℕ) (x : CodePlay) → i < length xs → x ≡ get_or xs i x → law_plays xs ≡ law_plays (take i xs) ++ law_play x ∷ law_plays (drop (suc i) xs)
plays_cut xs i x low e =
    ap law_plays (split_at xs i x low) ∙ (map-append law_play (take i xs) (get_or xs i x ∷ drop (suc i) xs) ∙ ap (λ p. law_plays (take i xs) ++ law_play p ∷ law_plays (drop (suc i) xs)) (sym e))

module _ (tells : Bool) (old mid new : Moment) (xs : List CodePlay) (i : ℕ) (x : CodePlay) (low : i < length xs) (e : x ≡ get_or xs i x) (PA LA : State → List Line → State → Type 0)
    (A : Led {V = Unit {0}} tells old mid (Ok tt) (λ state _. Course (form_at old.world) state (law_plays (take i xs))) PA LA) where
  pub plays_joined : (r : Result (Unit {0}) RunFault) → PlayLed tells mid new r (law_play x)
      → Led tells old new r (λ state _. Course (form_at old.world) state (law_plays (take (i + 1) xs))) (λ state. ComesTo (form_at old.world) state (law_plays xs)) (λ state. ComesTo (form_at old.world) state (law_plays xs))
  plays_joined r B =
      let done = law_plays (take i xs) in
      let left = law_plays (drop (suc i) xs) in
      let f = form_at old.world in
      subst (λ ps. Led tells old new r (λ state _. Course f state (law_plays (take (i + 1) xs))) (λ state. ComesTo f state ps) (λ state. ComesTo f state ps)) (sym (plays_cut xs i x low e))
      (subst (λ ps. Led tells old new r (λ state _. Course f state ps) (λ state. ComesTo f state (done ++ law_play x ∷ left)) (λ state. ComesTo f state (done ++ law_play x ∷ left))) (sym (plays_more xs i x low e))
      (play_joined tells old mid new done left (law_play x) PA LA A r B))
