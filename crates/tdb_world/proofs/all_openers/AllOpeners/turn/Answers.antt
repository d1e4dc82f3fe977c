-- An opener that isn't aside is among the others. What a turn leads to says how a prepared Commit goes on. What stops
-- leave of the others' turns alone has the premise that none is in the middle of a change.
use Rattle.std.proofs.lemmas.Result.{IfOk-weaker}
use Rattle.tdb_commands.specs.InLaw.{law_turn}
use Rattle.tdb_openers.proofs.ExplicitLocks.Aside.{on_one}
use Rattle.tdb_world.proofs.PreparedTurns.{prepared_leads}
use Rattle.tdb_world.proofs.Looking.{looks_among, looks_unstarted, writes_among, writes_unstarted}
use Rattle.tdb_world.proofs.Synced.{other_syncs, start_syncs}
use Rattle.std.proofs.Common.{◌≡◌, ℕ, Ok, Err, Some, subst, sym, ◌∙◌, ap}
use Rattle.std.proofs.lemmas.Bool.{false≢true}
use Rattle.std.specs.Prelude.{Result, IfOk}
use Rattle.tdb_commands.specs.InLaw.{law_opener}
use Rattle.tdb_world.specs.Syncs.{OnlyLooks}
use Rattle.tdb_world.specs.Looks.{WritesNothing}
use Rattle.tdb_txn_owner.specs.Holders.{HolderState}
use Rattle.tdb_world.specs.Steps.{IsAmong}
use Rattle.tdb_world.specs.Steps.IsAmong.{among_all, among_others}
use Rattle.tdb_world.specs.Whole.{Whole, form_at}
use Rattle.tdb_world.proofs.all_openers.AllOpeners.turn.Goals as goal

-- what holds of every value holds of an answer that is Ok
if_any : {V E : Type 0} (r : Result V E) (P : V → Type 0) → ((v : V) → P v) → IfOk r P
if_any (Ok v) P p = p v
if_any (Err e) P p = tt

pub start_turn-requires-clause-among : goal.start_turn-requires-clause-among
start_turn-requires-clause-among g c = c.is_aside.ensures.no c.if-is_aside.false

pub other_turn-requires-clause-among : goal.other_turn-requires-clause-among
other_turn-requires-clause-among g c = c.is_aside.ensures.no c.if-is_aside.false

pub returns-then-is_aside-clause-stops : goal.returns-then-is_aside-clause-stops
returns-then-is_aside-clause-stops g c told state S safe never = c.aside_turn.ensures.stops told state S safe

pub returns-then-is_aside-clause-safe : goal.returns-then-is_aside-clause-safe
returns-then-is_aside-clause-safe g c = on_one c.aside_turn.result _ _ (λ left told state S safe never. left told state S safe) c.aside_turn.ensures.safe

pub returns-then-is_starting-clause-stops : goal.returns-then-is_starting-clause-stops
returns-then-is_starting-clause-stops g c told state S safe never = c.start_turn.ensures.stops told state S safe

pub returns-then-is_starting-clause-safe : goal.returns-then-is_starting-clause-safe
returns-then-is_starting-clause-safe g c = on_one c.start_turn.result _ _ (λ left told state S safe never. left told state S safe) c.start_turn.ensures.safe

pub returns-then-is_aside-clause-prepared : goal.returns-then-is_aside-clause-prepared
returns-then-is_aside-clause-prepared g c =
    IfOk-weaker c.aside_turn.result _ _
    (λ turn leads told. prepared_leads c.args.self.now c.aside_turn.new.self (g.D.Disk.history c.args.d.now) (g.D.Disk.history c.aside_turn.new.d) c.args.who (law_turn turn) (leads told))
    c.aside_turn.ensures.turned

pub returns-then-is_starting-clause-prepared : goal.returns-then-is_starting-clause-prepared
returns-then-is_starting-clause-prepared g c =
    IfOk-weaker c.start_turn.result _ _
    (λ turn leads told. prepared_leads c.args.self.now c.start_turn.new.self (g.D.Disk.history c.args.d.now) (g.D.Disk.history c.start_turn.new.d) c.args.who (law_turn turn) (leads told))
    c.start_turn.ensures.turned

pub returns-clause-prepared : goal.returns-clause-prepared
returns-clause-prepared g c =
    IfOk-weaker c.other_turn.result _ _
    (λ turn leads told. prepared_leads c.args.self.now c.other_turn.new.self (g.D.Disk.history c.args.d.now) (g.D.Disk.history c.other_turn.new.d) c.args.who (law_turn turn) (leads told))
    c.other_turn.ensures.turned

-- how many syncs it makes, by its place in the world
pub returns-then-is_starting-clause-syncs : goal.returns-then-is_starting-clause-syncs
returns-then-is_starting-clause-syncs g c =
    IfOk-weaker c.start_turn.result _ _
    (λ turn S. start_syncs g.D.Disk.tells c.args.self.now (g.D.Disk.history c.args.d.now) c.args.who turn (g.D.Disk.syncs c.args.d.now) (g.D.Disk.syncs c.start_turn.new.d) (c.is_aside.ensures.no c.if-is_aside.false) S)
    c.start_turn.ensures.syncs

pub returns-clause-syncs : goal.returns-clause-syncs
returns-clause-syncs g c =
    if_any c.other_turn.result _ (λ turn. other_syncs g.D.Disk.tells c.args.self.now (g.D.Disk.history c.args.d.now) c.args.who turn (g.D.Disk.syncs c.args.d.now) (g.D.Disk.syncs c.other_turn.new.d) (c.is_aside.ensures.no c.if-is_aside.false)
    (sym c.is_starting.ensures ∙ c.if-is_starting.false))

-- one that only looks isn't aside, and has no Start
pub returns-then-is_aside-clause-no_sync : goal.returns-then-is_aside-clause-no_sync
returns-then-is_aside-clause-no_sync g c state S L =
    let h = c.is_aside.ensures.yes c.if-is_aside.true in
    absurd (looks_among c.args.self.now (g.D.Disk.history c.args.d.now) h.0 state h.1 S (subst (λ who. OnlyLooks (form_at c.args.self.now) state (law_opener who)) h.2 L))

pub returns-then-is_starting-clause-no_sync : goal.returns-then-is_starting-clause-no_sync
returns-then-is_starting-clause-no_sync g c state S L =
    absurd (looks_unstarted c.args.self.now (g.D.Disk.history c.args.d.now) state (law_opener c.args.who) (sym c.is_starting.ensures ∙ c.if-is_starting.true) S L)

pub returns-clause-no_sync : goal.returns-clause-no_sync
returns-clause-no_sync g c state S L = c.other_turn.ensures.no_sync state S L.calm

-- nor is one that writes nothing, and it has no Start that is granted
pub returns-then-is_aside-clause-still : goal.returns-then-is_aside-clause-still
returns-then-is_aside-clause-still g c state S L =
    let h = c.is_aside.ensures.yes c.if-is_aside.true in
    absurd (writes_among c.args.self.now (g.D.Disk.history c.args.d.now) h.0 state h.1 S (subst (λ who. WritesNothing (form_at c.args.self.now) state (law_opener who)) h.2 L))

pub returns-then-is_starting-clause-still : goal.returns-then-is_starting-clause-still
returns-then-is_starting-clause-still g c state S L =
    absurd (writes_unstarted c.args.self.now (g.D.Disk.history c.args.d.now) c.args.who _ _ c.requires.named c.requires.fits (c.is_aside.ensures.no c.if-is_aside.false) (sym c.is_starting.ensures ∙ c.if-is_starting.true) state S L)

pub returns-clause-still : goal.returns-clause-still
returns-clause-still g c state S L = c.other_turn.ensures.still state S L.calm

-- the one aside isn't among the others
not_among : (w : Whole) (who : ℕ) (h : HolderState) → w.aside ≡ Some h → who ≡ h.owner → IsAmong w who → ⊥
not_among w who h there mine (among_all nobody) = cc (sym nobody ∙ there)
not_among w who h there mine (among_others other is differs) = differs (mine ∙ ap (λ (z : HolderState). z.owner) (some_is h other (sym there ∙ is)))
  where
    some_is : (x y : HolderState) → Some x ≡ Some y → x ≡ y
    some_is x y e = cc

pub returns-then-is_aside-clause-waits : goal.returns-then-is_aside-clause-waits
returns-then-is_aside-clause-waits g c =
    let h = c.is_aside.ensures.yes c.if-is_aside.true in
    if_any c.aside_turn.result _ (λ turn begun among other there some. absurd (not_among c.args.self.now c.args.who h.0 h.1 h.2 among))

pub returns-clause-waits : goal.returns-clause-waits
returns-clause-waits g c =
    if_any c.other_turn.result _ (λ turn begun among other there some. absurd (false≢true (sym (sym c.is_starting.ensures ∙ c.if-is_starting.false) ∙ begun)))

-- where memory is wanting: one aside isn't among the others, and who has a Start has no other command
pub returns-then-is_aside-clause-starves : goal.returns-then-is_aside-clause-starves
returns-then-is_aside-clause-starves g c =
    let h = c.is_aside.ensures.yes c.if-is_aside.true in
    if_any c.aside_turn.result _ (λ turn x t H. absurd (not_among c.args.self.now c.args.who h.0 h.1 h.2 H.among))

pub returns-then-is_starting-clause-starves : goal.returns-then-is_starting-clause-starves
returns-then-is_starting-clause-starves g c =
    if_any c.start_turn.result _ (λ turn x t H. absurd (false≢true (sym H.begun ∙ (sym c.is_starting.ensures ∙ c.if-is_starting.true))))
