-- A session that goes on line by line.
use Rattle.std.proofs.Common.{◌≡◌, ℕ, ◌+◌, List, [], ◌∷◌, ◌++◌, length, Option, None, Some, Ok, Err, refl, sym, ◌∙◌, ap, subst, arith, if◌then◌else◌, ◌⊎◌, inl, inr}
use Rattle.std.specs.Prelude.{Bool, IsTrue}
use Rattle.std.proofs.lemmas.Grind.{flat_map-append}
use Rattle.std.proofs.lemmas.List.{append_assoc, append-nil}
use Rattle.std.proofs.lemmas.List.Sums.{sum_by-append, sum_by-cons}
use Rattle.tdb_script.specs.Lines.{lines_of, width}
use Rattle.tdb_tool.specs.declared.fault.SessionEnd.{SessionEnd}
use Rattle.tdb_tool.specs.declared.fault.SessionFault.{SessionFault}
use Rattle.tdb_tool.specs.declared.fault.SessionFault.TheVariants as F
use Rattle.tdb_tool.specs.declared.reader.LineReader.{LineReader}
use Rattle.tdb_tool.specs.Asking.{Says, with_said, LinesAsk, EndsBefore}
use Rattle.tdb_tool.specs.Lines.{unread as unread_of, lines_left, IsFresh}
use Rattle.tdb_world.specs.Courses.Scene.{Scene}
use Rattle.tdb_tool.specs.Serving.{IsUnspent, Ran, ServedNext, Served}
use Rattle.tdb_tool.specs.declared.order.Order.{Order}
use Rattle.tdb_tool.specs.Asked.{ReadLine}
use Rattle.tdb_tool.specs.Parts.{part_of, parts_of}
use Rattle.tdb_tool.proofs.PartsRan.{ran_none, ran_on, ran_memory, ran_input}

-- lines that ask for orders, and others behind them
pub ask_join : (at place : ℕ) (lines more : List (List ℕ)) (orders others : List Order) → place ≡ at + width lines → LinesAsk at lines orders → LinesAsk place more others → LinesAsk at (lines ++ more) (orders ++ others)
ask_join at place [] more orders others e p q =
    subst (λ cs. LinesAsk at more (cs ++ others)) (sym p) (subst (λ n. LinesAsk n more others) (let same : place ≡ at = omega (arith, e) in same) q)
ask_join at place (line ∷ lines) more orders others e p q =
    (p.0, p.1 ++ others, p.2, p.3, ask_join (at + length line + 1) place lines more p.1 others (omega (arith, e, sum_by-cons (λ l. length l + 1) line lines)) p.4 q, ap (λ cs. cs ++ others) p.5 ∙ behind p.0 p.1 others)
  where
    behind : (front : Option Order) (rest more : List Order) → with_said front rest ++ more ≡ with_said front (rest ++ more)
    behind None rest more = refl
    behind (Some order) rest more = refl

pub ask_none : (at : ℕ) (line : List ℕ) → Says at line None → LinesAsk at (line ∷ []) []
ask_none at line says = (None, [], says, λ e. cc, refl, refl)

pub ask_one : (at : ℕ) (line : List ℕ) (order : Order) → Says at line (Some order) → (order ≡ Order.Quit → ⊥) → LinesAsk at (line ∷ []) (order ∷ [])
ask_one at line order says but = (Some order, [], says, λ e. but (cc), refl, refl)

pub width_one : (line : List ℕ) → width (line ∷ []) ≡ length line + 1
width_one line = omega (arith, sum_by-cons (λ l. length l + 1) line [])

width_more : (before more : List (List ℕ)) → width (before ++ more) ≡ width before + width more
width_more before more = sum_by-append (λ l. length l + 1) before more

-- The orders of the lines before a place were done, and these lines are left.
pub record Serving (d i o : Bool) (start now : Scene) (text : List ℕ) (at : ℕ) (left : List (List ℕ)) : Type 0 where
  pub orders : List Order
  pub before : List (List ℕ)
  pub ask : LinesAsk 0 before orders
  pub lines : IsTrue i → lines_of text ≡ before ++ left
  pub place : at ≡ width before
  pub ran : Ran d o start now (parts_of orders) None

pub begun : (d i o : Bool) (start : Scene) (text : List ℕ) (r : LineReader) → IsUnspent start → IsFresh r → Serving d i o start start text r.at (lines_left r text)
begun d i o start text r unspent fresh = record {
  orders = [];
  before = [];
  ask = refl;
  lines = λ told. sym (ap (λ (b : Bool). if b then [] else lines_of (unread_of r ++ text)) fresh.more ∙ ap (λ u. lines_of (u ++ text)) fresh.unread);
  place = fresh.place;
  ran = ran_none d o start unspent;
}

parts_more : (orders others : List Order) → parts_of orders ++ parts_of others ≡ parts_of (orders ++ others)
parts_more orders others = sym (flat_map-append part_of orders others)

module _ (d i o : Bool) (start now later : Scene) (text : List ℕ) (at next : ℕ) (left after : List (List ℕ)) (s : Serving d i o start now text at left) where
  ask_more : (read : List (List ℕ)) (others : List Order) → LinesAsk at read others → LinesAsk 0 (s.before ++ read) (s.orders ++ others)
  ask_more read others q = ask_join 0 at s.before read s.orders others (let place = s.place in omega (arith, place)) s.ask q

  ran_more : (others : List Order) (answer : Option SessionFault) → Ran d o now later (parts_of others) answer → Ran d o start later (parts_of (s.orders ++ others)) answer
  ran_more others answer ran = subst (λ ps. Ran d o start later ps answer) (parts_more s.orders others) (ran_on d o start now later (parts_of s.orders) (parts_of others) s.ran answer ran)

  -- the session goes on
  pub goes_on : ServedNext d i o now later at left next after (Ok None) → Serving d i o start later text next after
  goes_on (others, read, ask, lines, reach, on, ran) = record {
    orders = s.orders ++ others;
    before = s.before ++ read;
    ask = ask_more read others ask;
    lines = λ told. s.lines told ∙ ap (λ ls. s.before ++ ls) (lines told) ∙ sym (append_assoc s.before read after);
    place = (let place = s.place in omega (arith, reach, place, width_more s.before read));
    ran = ran_more others None ran;
  }

  -- it ends
  pub ends : (end : SessionEnd) → ServedNext d i o now later at left next after (Ok (Some end)) → Served d i o start later text (Ok end)
  ends end (ending, same) = (
    s.orders,
    λ told. record { before = s.before; after = left; lines = s.lines told; ask = s.ask; ends = subst (λ n. EndsBefore n left end) s.place (ending told) },
    subst (λ scene. Ran d o start scene (parts_of s.orders) None) (sym same) s.ran,
  )

  -- it breaks off
  pub breaks_off : (fault : SessionFault) → ServedNext d i o now later at left next after (Err fault) → Served d i o start later text (Err fault)
  breaks_off fault (others, read, behind, ask, lines, ran) = (
    s.orders ++ others,
    λ told. record { before = s.before ++ read; after = behind; lines = s.lines told ∙ ap (λ ls. s.before ++ ls) (lines told) ∙ sym (append_assoc s.before read behind); ask = ask_more read others ask },
    ran_more others (Some fault) ran,
  )

-- a line was read, and what it asks for was done, or broke off
module _ (d i o : Bool) (old new : Scene) (at next : ℕ) (before after : List (List ℕ)) where
  pub not_read : (fault : SessionFault) → (fault ≡ F.Input) ⊎ (fault ≡ F.Memory) → IsUnspent old → ServedNext d i o old old at before next after (Err fault)
  not_read fault (inl e) unspent = ([], [], before, refl, λ told. refl, subst (λ f. Ran d o old old [] (Some f)) (sym e) (ran_input d o old old [] (ran_none d o old unspent)))
  not_read fault (inr e) unspent = ([], [], before, refl, λ told. refl, subst (λ f. Ran d o old old [] (Some f)) (sym e) (ran_memory d o old old [] (ran_none d o old unspent)))

  reach : (line : List ℕ) → next ≡ at + length line + 1 → next ≡ at + width (line ∷ [])
  reach line e = omega (arith, e, width_one line)

  pub skipped : IsUnspent old → ReadLine i at before next after (λ line. Says at line None) → ServedNext d i o old old at before next after (Ok None)
  skipped unspent (line, lines, e, says) = ([], line ∷ [], ask_none at line says, lines, reach line e, omega (arith, e), ran_none d o old unspent)

  module _ (order : Order) (read : ReadLine i at before next after (λ line. Says at line (Some order) × (order ≡ Order.Quit → ⊥))) where
    alone : (answer : Option SessionFault) → Ran d o old new (part_of order) answer → Ran d o old new (parts_of (order ∷ [])) answer
    alone answer ran = subst (λ ps. Ran d o old new ps answer) (sym (append-nil (part_of order))) ran

    pub taken : Ran d o old new (part_of order) None → ServedNext d i o old new at before next after (Ok None)
    taken ran = (order ∷ [], read.0 ∷ [], ask_one at read.0 order read.3.0 read.3.1, read.1, reach read.0 read.2, (let e = read.2 in omega (arith, e)), alone None ran)

    pub broken_off : (fault : SessionFault) → Ran d o old new (part_of order) (Some fault) → ServedNext d i o old new at before next after (Err fault)
    broken_off fault ran = (order ∷ [], read.0 ∷ [], after, ask_one at read.0 order read.3.0 read.3.1, read.1, alone (Some fault) ran)

-- no line was read for want of memory
pub unread : (d i o : Bool) (start : Scene) (text : List ℕ) → IsUnspent start → Served d i o start start text (Err F.Memory)
unread d i o start text unspent = ([], λ told. record { before = []; after = lines_of text; lines = refl; ask = refl }, ran_memory d o start start [] (ran_none d o start unspent))
