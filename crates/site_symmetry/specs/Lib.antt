pub mod OrderedSite
