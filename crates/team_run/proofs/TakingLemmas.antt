-- One team taken in after another.
use Rattle.std.proofs.Common.{◌≡◌, ◌+◌, Bool, false, true, List, [], ◌∷◌, ◌++◌, length, reverse, All, refl}
use Rattle.std.proofs.Common.{sym, ap, subst, ◌∙◌, append_assoc, append-nil, length-append, arith}
use Rattle.std.specs.List.{flat_map}
use Rattle.std.proofs.lemmas.List.{map-append, reverse-reverse, length-reverse}
use Rattle.std.proofs.lemmas.List.Concat.{flat_map-append}
use Rattle.std.proofs.lemmas.List.Elements.{All-nil, All-push}
use Rattle.shard_office.specs.Office.{OfficeState}
use Rattle.shard_office.specs.Sight.{GoesOn}
use Rattle.shard_office.specs.Passes.{PassState, own}
use Rattle.shard_office.specs.Clerk.{ClerkState}
use Rattle.frozen_version.specs.Versions.{VersionState}
use Rattle.team_run.specs.declared.team.Team.{Team}
use Rattle.team_run.specs.Teams.{IsSameClerk}
use Rattle.team_run.specs.Runs.{passes_of, versions_of, IsTaking}
use Rattle.team_run.proofs.Lists.{next_of, All-reverse, All-split}
use Rattle.team_run.proofs.Sights.{goes_on_same, goes_on_further}

abbrev IsOfOffice : OfficeState → Team → Type 0
IsOfOffice office team = team.pass.office ≡ office

abbrev IsWhole : Team → Type 0
IsWhole team = team.refused ≡ false

pub same_clerk : (old new : ClerkState) → new.desk ≡ old.desk → IsSameClerk old new
same_clerk old new is = record {
  office = ap (λ (p : PassState). p.office) is;
  caller = ap (λ (p : PassState). p.caller) is;
  own_are = ap own is;
  goes_on = subst (λ (p : PassState). GoesOn old.desk.sight p.sight) (sym is) (goes_on_same old.desk.sight);
}

pub same_further : (old now new : ClerkState) → IsSameClerk old now → IsSameClerk now new → IsSameClerk old new
same_further old now new one other = record {
  office = other.office ∙ one.office;
  caller = other.caller ∙ one.caller;
  own_are = other.own_are ∙ one.own_are;
  goes_on = goes_on_further old.desk.sight now.desk.sight new.desk.sight one.goes_on other.goes_on;
}

pub taking_none :
    (office : OfficeState) (old : ClerkState) (teams left : List Team) (versions : List VersionState)
    → All (IsOfOffice office) teams
    → old.open_teams ≡ length teams → versions ≡ [] → left ≡ reverse teams → IsTaking office old teams left old versions true
taking_none office old teams left versions of many none is = record {
  done = [];
  parts = sym (ap reverse is ∙ reverse-reverse teams);
  of_office = subst (All (IsOfOffice office)) (sym is) (All-reverse (IsOfOffice office) teams of);
  same = same_clerk old old refl;
  taken = sym (append-nil old.taken);
  open_teams = many ∙ sym (ap length is ∙ length-reverse teams);
  versions_are = λ whole. (none, All-nil IsWhole);
}

pub taking_more :
    (office : OfficeState) (old now new : ClerkState) (teams left rest : List Team) (team : Team)
    (versions more : List VersionState) (whole then : Bool)
    → IsTaking office old teams left now versions whole → left ≡ rest ++ team ∷ [] → IsSameClerk now new
    → new.taken ≡ now.taken ++ team.pass ∷ []
    → new.open_teams + 1 ≡ now.open_teams
    → (then ≡ true → (whole ≡ true) × (team.refused ≡ false) × (more ≡ versions ++ versions_of team))
    → IsTaking office old teams rest new more then
taking_more office old now new teams left rest team versions more whole then t is same taken back added = record {
  done = t.done ++ team ∷ [];
  parts = t.parts ∙ next_of t.done rest team left is;
  of_office = (All-split (IsOfOffice office) rest team (subst (All (IsOfOffice office)) is t.of_office)).0;
  same = same_further old now new t.same same;
  taken = taken ∙ (ap (λ (l : List PassState). l ++ team.pass ∷ []) t.taken
      ∙ (append_assoc old.taken (passes_of t.done) (team.pass ∷ [])
      ∙ ap (λ (l : List PassState). old.taken ++ l) (sym (map-append (λ (x : Team). x.pass) t.done (team ∷ [])))));
  open_teams =
      let before = t.open_teams in
      let long = ap length is in
      let parts = length-append rest (team ∷ []) in
      omega arith;
  versions_are = λ fine.
      let a = added fine in
      let before = t.versions_are a.0 in (
        a.2 ∙ (ap (λ (l : List VersionState). l ++ versions_of team) before.0
            ∙ (ap (λ (l : List VersionState). flat_map versions_of t.done ++ l) (sym (append-nil (versions_of team)))
            ∙ sym (flat_map-append versions_of t.done (team ∷ [])))),
        All-push IsWhole t.done team before.1 a.1,
      );
}
