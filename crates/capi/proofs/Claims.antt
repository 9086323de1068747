-- After a list of settings the grid is the one that is opened afresh, so the calls agree.
use mathlib.Core.Path.{refl, subst}
use Rattle.grid.specs.Grid.{Grid}
use Rattle.grid.specs.claims.Setting.{set_all}
use Rattle.grid.proofs.Settings.{settings_right}
use Rattle.capi.specs.claims.Claims.{CallsAgree, SettingsFresh}

agree_self : (G : Grid) → CallsAgree G G
agree_self G = record {
  check = refl;
  mesh = λ room. refl;
  mesh-area = λ area. refl;
  run = λ cuts r room. refl;
  run-area = λ cuts r area. refl;
  joined = λ cuts room. refl;
  joined-area = λ cuts area. refl;
  loops = λ c k. refl;
  places = λ nodes fractions room. refl;
  places-area = λ nodes fractions area. refl;
  shading = λ room. refl;
  shading-area = λ area. refl;
}

pub settings_fresh : SettingsFresh
settings_fresh G values q l starts e = subst (CallsAgree (set_all l G)) ((settings_right G values q l).reopened starts e) (agree_self (set_all l G))
