-- How a page looks.
use Rattle.std.specs.Prelude.{ℕ, List}
use Rattle.sheet_page.specs.declared.style.TheConstants.{STYLE}

abbrev pub style : List ℕ
style = STYLE.now
