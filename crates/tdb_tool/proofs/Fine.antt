-- A world serves the orders of a session, whose keys and values are no longer than their lines.
use Rattle.std.proofs.Common.{ℕ, ◌<◌, ◌≤◌, List, [], ◌∷◌, length, length-append, ap, Bool, true, false, Some, inl, inr, arith}
use Rattle.std.specs.Prelude.{◌^◌}
use Rattle.std.specs.Str.{bytes_eq}
use Rattle.tdb_dump.specs.Word.{IsWord}
use Rattle.tdb_cmdline.proofs.HexLemmas.{hex_short}
use Rattle.tdb_cmdline.proofs.ShortWords.{word_short}
use Rattle.tdb_script.specs.Lines.{words_of}
use Rattle.tdb_script.proofs.EachRow.{of_row}
use Rattle.tdb_script.proofs.PartLemmas.{NoLonger, words_no_longer}
use Rattle.tdb_tool.specs.declared.order.Order.{Order}
use Rattle.tdb_tool.specs.Rows.{bare_orders, key_orders, value_orders}
use Rattle.tdb_tool.specs.Orders.{storehex, IsSpelled, IsOrder}
use Rattle.tdb_tool.specs.Asking.{Says}
use Rattle.tdb_tool.specs.Parts.{IsServedOrder}

-- a word stands for no more bytes than it has
spelled_short : (hex : Bool) (word bytes : List ℕ) → IsSpelled hex word bytes → length bytes ≤ length word
spelled_short true word bytes p = hex_short word bytes p
spelled_short false word bytes p = word_short word bytes p

module _ (n : ℕ) (few : n < 2 ^ 32) where
  short : (hex : Bool) (word bytes : List ℕ) → length word ≤ n → IsSpelled hex word bytes → length bytes < 2 ^ 32
  short hex word bytes within is = omega (arith, few, within, spelled_short hex word bytes is)

  order_fine : (words : List (List ℕ)) (order : Order) → NoLonger n words → IsOrder words order → IsServedOrder order
  order_fine [] order l p = absurd p
  order_fine (name ∷ []) order l p = of_row IsServedOrder bare_orders name order (tt, (tt, (tt, (tt, (tt, (tt, (tt, (tt, (tt, (tt, (tt, tt))))))))))) p
  order_fine (name ∷ word ∷ []) order l p =
      let k = short false word p.0 l.1.0 p.1 in
      of_row IsServedOrder (key_orders p.0) name order (k, (k, tt)) p.2
  order_fine (name ∷ word ∷ more ∷ []) order l p =
      let hex = bytes_eq name storehex in
      let k = short hex word p.0 l.1.0 p.2 in
      let v = short hex more p.1 l.1.1.0 p.3 in
      of_row IsServedOrder (value_orders p.0 p.1) name order ((k, v), ((k, v), ((k, v), tt))) p.4
  order_fine (name ∷ word ∷ more ∷ other ∷ words) order l p = absurd p

pub said_fine : (at : ℕ) (line : List ℕ) (order : Order) → Says at line (Some order) → IsServedOrder order
said_fine at line order says =
    let short = says.fits.short in
    order_fine 16777216 (omega arith) (words_of line) order (words_no_longer 16777216 line short) says.words
