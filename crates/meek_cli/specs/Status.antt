-- How a run ends. What is refused is a ballot file or a day file.
use Rattle.input_text.specs.declared.input_fault.InputFault.{InputFault}
use Rattle.tool_edge.specs.declared.end.End.{End}

abbrev pub Status : Type 0
Status = End InputFault
