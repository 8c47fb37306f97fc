-- The names in a plain pool, and the log areas of its datasets.
use Rattle.std.specs.Prelude.{◌≡◌, ℕ, ◌<◌, List, length}
use Rattle.std.specs.List.{AllByRecursion}
use Rattle.zc_command.specs.Names.{IsName}
use Rattle.zc_plain.specs.declared.plain_pool.PlainFile.{PlainFile}
use Rattle.zc_plain.specs.declared.plain_pool.PlainDataset.{PlainDataset}
use Rattle.zc_plain.specs.declared.plain_pool.PlainPool.{PlainPool}
use Rattle.zc_heart.specs.Core.{AreApart}

-- the dataset and each of its files have a name of 1 to 64 name bytes
pub record IsNamed (dataset : PlainDataset) : Type 0 where
  pub own : IsName dataset.name
  pub files : AllByRecursion (λ (file : PlainFile). IsName file.name) dataset.files

abbrev pub AreNamed : PlainPool → Type 0
AreNamed pool = AllByRecursion IsNamed pool.datasets

-- each dataset has a log area of its own, one of eight
pub record AreAreas (areas : List ℕ) (pool : PlainPool) : Type 0 where
  pub count : length areas ≡ length pool.datasets
  pub below : AllByRecursion (λ area. area < 8) areas
  pub apart : AreApart areas
