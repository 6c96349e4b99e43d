-- One refusal by another.
use Rattle.std.specs.Prelude.{ℕ, List}
use Rattle.feed_meaning.specs.Locations.{row_at}
use Rattle.flex_model.specs.declared.fault.FaultCode.TheVariants.{JsonDepth, JsonSyntax}
use Rattle.json_text.specs.declared.refusal.ScanRefusal.{ScanRefusal}
use Rattle.json_text.specs.declared.refusal.ScanRefusal.TheVariants as ScanRefusals
use Rattle.geo_json.specs.declared.refusal.GeoRefusal.{GeoRefusal}
use Rattle.geo_json.specs.declared.refusal.GeoRefusal.TheVariants as GeoRefusals
use Rattle.geo_json.specs.declared.refusal.WalkRefusal.{WalkRefusal}
use Rattle.geo_json.specs.declared.refusal.WalkRefusal.TheVariants as WalkRefusals

-- that of a text which wasn't scanned
abbrev pub of_scan : ScanRefusal → WalkRefusal
of_scan (ScanRefusals.Syntax at) = WalkRefusals.Fault JsonSyntax at
of_scan (ScanRefusals.Depth at) = WalkRefusals.Fault JsonDepth at
of_scan ScanRefusals.NoMemory = WalkRefusals.NoMemory

-- with the line of its place
abbrev pub located : List ℕ → WalkRefusal → GeoRefusal
located text (WalkRefusals.Fault code place) = GeoRefusals.Fault code (row_at text place)
located text WalkRefusals.NoMemory = GeoRefusals.NoMemory
