-- What is left where the opener is back: it holds no record, and by a Close it has ended.
use Rattle.std.proofs.Common.{◌≡◌, ℕ, List, None, refl, sym, ◌∙◌, ap, subst}
use Rattle.tdb_openers.specs.Worlds.{World as Openers, IsNumber, Stands, BytesStand}
use Rattle.std.specs.Prelude.{not}
use Rattle.tdb_openers.specs.Aside.{HoldsRecords, IsBare}
use Rattle.tdb_openers.specs.declared.opener.Opener.{Opener}
use Rattle.tdb_world.specs.Claims.{IsSettled}
use Rattle.tdb_world.specs.Whole.{Whole}
use Rattle.tdb_world.proofs.Settled.{bare_after, named_after, released_closed, released_live, settled_none, settled_some}
use Rattle.tdb_world.proofs.all_openers.AllOpeners.settle.Goals as goal
use Rattle.tdb_world.proofs.all_openers.AllOpeners.settle.Goals.{then-is_none+then-closes, then-is_none+else-closes, else-is_none}

-- the openers that the call was given
were : (c : goal.After-put_aside) → c.self.inside.openers ≡ c.args.self.now.openers
were c = ap (λ (w : Whole). w.openers) c.self.view_is

pub close-requires-clause-bare : goal.close-requires-clause-bare
close-requires-clause-bare c =
    let b = subst (λ o. (x : Opener) × IsNumber o c.args.who x × IsBare x) (sym (ap (λ (w : Whole). w.openers) c.self.view_is)) c.requires.bare in
    (_, named_after (c.let_go_of_records.ensures.let_go b.0 b.1) b.1, bare_after None b.2)

pub close-requires-clause-stands : goal.close-requires-clause-stands
close-requires-clause-stands c =
    let s = subst (λ o. (img : List ℕ) × (size : ℕ) × Stands o img size) (sym (ap (λ (w : Whole). w.openers) c.self.view_is)) c.requires.stands in
    (s.0, s.1, c.let_go_of_records.ensures.stands s.0 s.1 s.2)

-- what holds of the openers that are left, where letting go of the records and ending keep it
module _ (c : goal.After-put_aside) (P : Openers → Type 0) where
  left_as : (o : Openers) → c.if-is_none.self.openers ≡ o → P o → P c.put_aside.new.self.openers
  left_as o is p = subst P (sym (ap (λ (w : Whole). w.openers) c.put_aside.ensures ∙ is)) p

pub returns-clause-settled : goal.returns-clause-settled
returns-clause-settled c = λ x N.
    let now = subst (λ o. IsNumber o c.args.who x) (sym (were c)) N in
    elim c.if-is_none.branch [
      | then-is_none+then-closes w ↦
          left_as c (IsSettled c.args.self.now.openers c.args.who x c.args.closes c.args.moved.holder) _ (ap (λ (v : Whole). v.openers) w.self-is)
          (settled_none c.args.self.now.openers _ c.args.who x c.args.closes c.args.moved.holder (c.is_none.ensures ∙ ap not w.if-is_none.true)
          (released_closed c.args.self.now.openers _ _ c.args.who x c.args.closes w.if-closes.true (subst (λ o. HoldsRecords o c.args.who x None w.let_go_of_records.new.self) (were c) (w.let_go_of_records.ensures.let_go x now)) w.close.ensures.closed))
      | then-is_none+else-closes w ↦
          left_as c (IsSettled c.args.self.now.openers c.args.who x c.args.closes c.args.moved.holder) _ (ap (λ (v : Whole). v.openers) w.self-is)
          (settled_none c.args.self.now.openers _ c.args.who x c.args.closes c.args.moved.holder (c.is_none.ensures ∙ ap not w.if-is_none.true)
          (released_live c.args.self.now.openers _ c.args.who x c.args.closes w.if-closes.false (subst (λ o. HoldsRecords o c.args.who x None w.let_go_of_records.new.self) (were c) (w.let_go_of_records.ensures.let_go x now))))
      | else-is_none w ↦
          left_as c (IsSettled c.args.self.now.openers c.args.who x c.args.closes c.args.moved.holder) _ (ap (λ (v : Whole). v.openers) w.self-is)
          (settled_some c.args.self.now.openers _ c.args.who x c.args.closes c.args.moved.holder (c.is_none.ensures ∙ ap not w.if-is_none.false) refl)
    ]

pub returns-clause-stands : goal.returns-clause-stands
returns-clause-stands c = λ img size W.
    let now = subst (λ o. Stands o img size) (sym (were c)) W in
    elim c.if-is_none.branch [
      | then-is_none+then-closes w ↦
          left_as c (λ o. Stands o img size) _ (ap (λ (v : Whole). v.openers) w.self-is) (w.close.ensures.stands img size (w.let_go_of_records.ensures.stands img size now))
      | then-is_none+else-closes w ↦ left_as c (λ o. Stands o img size) _ (ap (λ (v : Whole). v.openers) w.self-is) (w.let_go_of_records.ensures.stands img size now)
      | else-is_none w ↦ left_as c (λ o. Stands o img size) _ (ap (λ (v : Whole). v.openers) w.self-is) W
    ]

pub returns-clause-bytes : goal.returns-clause-bytes
returns-clause-bytes c = λ img F.
    let now = subst (λ o. BytesStand o img) (sym (were c)) F in
    elim c.if-is_none.branch [
      | then-is_none+then-closes w ↦ left_as c (λ o. BytesStand o img) _ (ap (λ (v : Whole). v.openers) w.self-is) (w.close.ensures.bytes img (w.let_go_of_records.ensures.bytes img now))
      | then-is_none+else-closes w ↦ left_as c (λ o. BytesStand o img) _ (ap (λ (v : Whole). v.openers) w.self-is) (w.let_go_of_records.ensures.bytes img now)
      | else-is_none w ↦ left_as c (λ o. BytesStand o img) _ (ap (λ (v : Whole). v.openers) w.self-is) F
    ]
