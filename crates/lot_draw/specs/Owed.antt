-- What the tool that draws lots owes.
use Rattle.std.specs.Prelude.{◌≡◌, ℕ, List}
use Rattle.input_text.specs.declared.input_fault.InputFault.{InputFault}
use Rattle.lot_order.specs.Lots.{IsOrder}
use Rattle.lot_draw.specs.Draw.{IsDraw}
use Rattle.lot_draw.specs.DrawnLine.{drawn_line}
use Rattle.tool_edge.specs.Tool.{Tool}
use Rattle.tool_edge.specs.Tools.{over_words}
use Rattle.lot_draw.specs.Words.{Asked, TakesDraw}

-- the line of the order that is drawn from the seed, which is an order of lots
pub record OwesDraw (asked : Asked) (bytes : List ℕ) : Type 0 where
  pub order : List ℕ
  pub drawn : IsDraw asked.seed asked.candidates order
  pub lots : IsOrder order
  pub line : bytes ≡ drawn_line order

-- the tool, which reads nothing and refuses nothing but words
abbrev pub draws : Tool Asked (Unit {0}) InputFault
draws = over_words TakesDraw OwesDraw
