-- How addresses, accesses, spans and refusals are written.
use Rattle.std.specs.Prelude.{ℕ, ◌-◌, List, [], ◌++◌, Some, None, Option, codes, decimal, length, replicate, true}
use Rattle.std.specs.Fmt.{digits}
use Rattle.bus.specs.declared.address.PhysAddr.{PhysAddr}
use Rattle.bus.specs.declared.access.Access.{Access}
use Rattle.bus.specs.declared.board.Span.{Span}
use Rattle.bus.specs.declared.refusal.Refusal.{Refusal}
use Rattle.bus.specs.declared.refusal.BoardRefusal.{BoardRefusal}
use Rattle.bus.specs.Refusals.{refusal_number, refusal_address, board_refusal_number}

-- digits with zeros before them, k in all where they are not more
abbrev pub zeros_before : ℕ → List ℕ → List ℕ
zeros_before k text = replicate (k - length text) 48 ++ text

-- eight upper-case hexadecimal digits
abbrev pub address_text : PhysAddr → List ℕ
address_text at = codes "0x" ++ zeros_before 8 (digits 16 true at.0)

abbrev pub access_text : Access → List ℕ
access_text access = address_text access.at ++ (codes " " ++ decimal access.width)

-- upper-case hexadecimal digits
abbrev pub number_text : ℕ → List ℕ
number_text n = codes "0x" ++ digits 16 true n

abbrev pub span_text : Span → List ℕ
span_text span = address_text span.base ++ (codes " " ++ number_text span.length)

abbrev pub place_text : Option PhysAddr → List ℕ
place_text None = []
place_text (Some at) = codes " at " ++ address_text at

abbrev pub refusal_text : Refusal → List ℕ
refusal_text e = codes "refused " ++ (decimal (refusal_number e) ++ place_text (refusal_address e))

abbrev pub board_refusal_text : BoardRefusal → List ℕ
board_refusal_text e = codes "refused " ++ decimal (board_refusal_number e)
