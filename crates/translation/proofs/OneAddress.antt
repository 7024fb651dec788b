-- Where what an address is translated to lies, and that whoever may store or fetch there may load.
use Rattle.std.proofs.Common.{◌≡◌, ℕ, ◌+◌, ◌*◌, ◌%◌, ◌^◌, true, false, Bool, cond, not, nat_lt, ◌&&◌, Some, None, Option, Ok, Err, Result, IfOk, refl, ap, ◌∙◌, arith}
use Rattle.pages.specs.declared.access_kind.AccessKind.{AccessKind}
use Rattle.pages.specs.declared.access_kind.AccessKind.TheVariants.{Load}
use Rattle.pages.specs.declared.privilege.Privilege.{Privilege}
use Rattle.pages.specs.declared.page_size.PageSize.{PageSize}
use Rattle.pages.specs.declared.page_size.PageSize.TheVariants.{Small, Large}
use Rattle.pages.specs.Kinds.{plv}
use Rattle.tlb.specs.declared.entry.Entry.{Entry}
use Rattle.tlb.specs.declared.table.Tlb.{Tlb}
use Rattle.tlb.specs.Entries.{half}
use Rattle.tlb.specs.Searching.{entry, find}
use Rattle.tlb.proofs.First.{find_first}
use Rattle.csr.specs.declared.exception.PageFault.{PageFault}
use Rattle.csr.specs.declared.exception.PageFault.TheVariants.{Ppi, Pme}
use Rattle.csr.specs.declared.mode.Mode.{Mode}
use Rattle.csr.specs.declared.mode.TranslationMode.TheVariants.{Mapped}
use Rattle.csr.specs.declared.window.Window.{Window}
use Rattle.csr.specs.declared.window.Windows.{Windows}
use Rattle.translation.specs.Translation.{applies, place_in, is_store, invalid, permission, in_page, if_permitted, through_page, translation}
use Rattle.translation.specs.Laws.{SameOffset, InSegment, InFrame, LeadsTo, direct, window0, window1, page, LoadsFrom}
use Rattle.translation.proofs.Ways.{each_way, goes_direct, goes_by_window, goes_by_page}

offset_in : (size : PageSize) (frame at : ℕ) → SameOffset at (place_in size frame at)
offset_in Small frame at = omega arith
offset_in Large frame at = omega arith

pub same_offset : (mode : Mode) (ws : Windows) (tlb : Tlb) (kind : AccessKind) (at : ℕ)
    → IfOk (translation mode ws tlb kind at) (λ to. SameOffset at to.0.0)
same_offset mode ws tlb kind at = each_way mode ws tlb kind at (λ to. SameOffset at to.0.0) (record {
  direct_way = λ m. refl;
  window_way = λ w m e. omega arith;
  page_way = λ i m e f g. offset_in (entry tlb i).page_size (half (entry tlb i) at).frame.0 at;
})

lies_in : (size : PageSize) (frame at : ℕ) → InFrame size frame at (place_in size frame at)
lies_in Small frame at = (omega arith, omega arith)
lies_in Large frame at = (omega arith, omega arith)

-- which window it is that was chosen, by whether each applies
chosen : (mode : Mode) (ws : Windows) (tlb : Tlb) (at : ℕ) (w : Window) (one zero : Bool) → mode.translation ≡ Mapped
    → applies ws.dmw1 mode.plv at ≡ one → applies ws.dmw0 mode.plv at ≡ zero
    → ◌≡◌ {A = Option Window} (cond one (Some ws.dmw1) (cond zero (Some ws.dmw0) None)) (Some w)
    → InSegment w at (w.pseg * 2 ^ 29 + at % 2 ^ 29)
    → LeadsTo mode ws tlb at (w.pseg * 2 ^ 29 + at % 2 ^ 29)
chosen mode ws tlb at w true zero m one_is zero_is e inside =
    let same : ws.dmw1 ≡ w = cc in
    window1 m one_is (rw same inside)
chosen mode ws tlb at w false true m one_is zero_is e inside =
    let same : ws.dmw0 ≡ w = cc in
    window0 m one_is zero_is (rw same inside)
chosen mode ws tlb at w false false m one_is zero_is e inside = cc

neither : (mode : Mode) (ws : Windows) (tlb : Tlb) (at i : ℕ) (one zero : Bool) → mode.translation ≡ Mapped
    → applies ws.dmw1 mode.plv at ≡ one → applies ws.dmw0 mode.plv at ≡ zero
    → ◌≡◌ {A = Option Window} (cond one (Some ws.dmw1) (cond zero (Some ws.dmw0) None)) None → find tlb at mode.asid ≡ Some i
    → LeadsTo mode ws tlb at (place_in (entry tlb i).page_size (half (entry tlb i) at).frame.0 at)
neither mode ws tlb at i true zero m one_is zero_is e f = cc
neither mode ws tlb at i false true m one_is zero_is e f = cc
neither mode ws tlb at i false false m one_is zero_is e f =
    page i m one_is zero_is (find_first tlb at mode.asid i f) (lies_in (entry tlb i).page_size (half (entry tlb i) at).frame.0 at)

pub leads_to : (mode : Mode) (ws : Windows) (tlb : Tlb) (kind : AccessKind) (at : ℕ)
    → IfOk (translation mode ws tlb kind at) (λ to. LeadsTo mode ws tlb at to.0.0)
leads_to mode ws tlb kind at = each_way mode ws tlb kind at (λ to. LeadsTo mode ws tlb at to.0.0) (record {
  direct_way = λ m. direct m refl;
  window_way = λ w m e. chosen mode ws tlb at w _ _ m refl refl e (omega arith, omega arith);
  page_way = λ i m e f g. neither mode ws tlb at i _ _ m refl refl e f;
})

abbrev Permission : Type 0
Permission = Result (Unit {0}) PageFault

-- V is wanted of every access, and PLV; D of a store alone
may_load : (kind : AccessKind) (valid level clean : Bool)
    → ◌≡◌ {A = Permission} (cond (not valid) (Err (invalid kind)) (cond level (Err Ppi) (cond (is_store kind && clean) (Err Pme)
    (Ok tt)))) (Ok tt)
    → ◌≡◌ {A = Permission} (cond (not valid) (Err (invalid Load)) (cond level (Err Ppi) (Ok tt))) (Ok tt)
may_load kind true false clean h = refl
may_load kind true true clean h = cc
may_load kind false level clean h = cc

loads_in : (e : Entry) (level : Privilege) (kind : AccessKind) (at : ℕ) → permission (half e at) level kind ≡ Ok tt
    → through_page e level Load at ≡ Ok (in_page e.page_size (half e at) at)
loads_in e level kind at h =
    ap (λ r. if_permitted r (in_page e.page_size (half e at) at))
    (may_load kind (half e at).valid (nat_lt (half e at).plv (plv level)) (not (half e at).dirty) h)

pub loads_from : (mode : Mode) (ws : Windows) (tlb : Tlb) (kind : AccessKind) (at : ℕ)
    → IfOk (translation mode ws tlb kind at) (λ to. LoadsFrom mode ws tlb at to.0.0)
loads_from mode ws tlb kind at = each_way mode ws tlb kind at (λ to. LoadsFrom mode ws tlb at to.0.0) (record {
  direct_way = λ m. (mode.datm, goes_direct mode ws tlb Load at m);
  window_way = λ w m e. (w.mat, goes_by_window mode ws tlb Load at (Some w) m e);
  page_way = λ i m e f g. (
    (half (entry tlb i) at).mat,
    goes_by_page mode ws tlb Load at i m e f ∙ loads_in (entry tlb i) mode.plv kind at g,
  );
})
